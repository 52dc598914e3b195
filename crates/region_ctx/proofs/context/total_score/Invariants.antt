use Rattle.std.proofs.Common.{◌≡◌, ◌-◌, ◌*◌, ◌≤◌, sum_by}
use Rattle.std.specs.List.{range_with_len}
use Rattle.orienteering.specs.Instance.{site}
use Rattle.region_ctx.proofs.context.total_score.Given as goal

abbrev pub invariant-loop-call : goal.invariant-loop-call
invariant-loop-call l =
    record {
      value : l.sum ≡ sum_by (λ k. (site l.inst k).score) (range_with_len 1 (l.call - 1));
      limit : l.sum ≤ (l.call - 1) * 100000;
    }
