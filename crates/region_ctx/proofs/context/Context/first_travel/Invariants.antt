use Rattle.std.proofs.Common.{◌≡◌, ◌-◌, ◌*◌, ◌≤◌, sum_by, if◌then◌else◌}
use Rattle.std.specs.List.{range_with_len}
use Rattle.orienteering.specs.Instance.{travel}
use Rattle.orienteering.specs.Region.{is_used}
use Rattle.region_ctx.proofs.context.Context.first_travel.Given as goal

abbrev pub invariant-loop-j : goal.invariant-loop-j
invariant-loop-j l =
    record {
      value : l.sum ≡ sum_by (λ k. if is_used l.self 0 k then travel l.inst 0 k else 0) (range_with_len 1 (l.j - 1));
      limit : l.sum ≤ (l.j - 1) * 282842712;
    }
