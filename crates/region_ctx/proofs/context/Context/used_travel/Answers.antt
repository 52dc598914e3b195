use Rattle.std.proofs.Common.{sym, ◌∙◌, ◌+◌, arith, sum_by, if◌then◌else◌}
use Rattle.orienteering.specs.Instance.{travel}
use Rattle.orienteering.specs.Region.{is_used}
use Rattle.orienteering.specs.Instance.{targets}
use Rattle.region_ctx.proofs.Ranges.{sum_by_range_step}
use Rattle.region_ctx.proofs.context.Context.used_travel.Goals as goal

pub loop-call-preserved : goal.loop-call-preserved
loop-call-preserved c =
    record {
      value =
          (λ x. c.loop-call.invariant.value x + c.next_travel-sum.ensures.value x)
          ∙ sym (sum_by_range_step (λ i. sum_by (λ j. if is_used c.args.self.now i j then travel c.args.inst.now i j else 0) (targets c.args.self.now.calls)) 0 c.loop-call.call (omega arith));
      limit = omega arith;
    }
