use Rattle.std.proofs.Common.{◌≡◌, ◌+◌, ◌-◌, ◌*◌, ◌≤◌, sum_by, if◌then◌else◌}
use Rattle.std.specs.List.{range_with_len}
use Rattle.orienteering.specs.Instance.{travel}
use Rattle.orienteering.specs.Region.{is_used}
use Rattle.orienteering.specs.Instance.{targets}
use Rattle.region_ctx.proofs.context.Context.used_travel.Given as goal

abbrev pub invariant-loop-call : goal.invariant-loop-call
invariant-loop-call l =
    record {
      value : l.sum ≡ sum_by (λ i. sum_by (λ j. if is_used l.self i j then travel l.inst i j else 0) (targets l.self.calls)) (range_with_len 0 (l.call - 0));
      limit : l.sum ≤ 301 * 282842712 + l.call * 282842712;
    }
