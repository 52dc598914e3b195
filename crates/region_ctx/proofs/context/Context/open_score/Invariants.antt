use Rattle.std.proofs.Common.{◌≡◌, ◌-◌, ◌*◌, ◌≤◌, sum_by, if◌then◌else◌}
use Rattle.std.specs.List.{range_with_len}
use Rattle.orienteering.specs.Instance.{site}
use Rattle.orienteering.specs.Region.{can_be_entered}
use Rattle.region_ctx.proofs.context.Context.open_score.Given as goal

abbrev pub invariant-loop-call : goal.invariant-loop-call
invariant-loop-call l =
    record {
      value : l.sum ≡ sum_by (λ k. if can_be_entered l.self k then (site l.inst k).score else 0) (range_with_len 1 (l.call - 1));
      limit : l.sum ≤ (l.call - 1) * 100000;
    }
