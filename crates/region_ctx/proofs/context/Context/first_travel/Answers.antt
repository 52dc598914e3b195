use Rattle.std.proofs.Common.{sym, ◌∙◌, ◌+◌, arith, if◌then◌else◌}
use Rattle.orienteering.specs.Instance.{travel}
use Rattle.orienteering.specs.Region.{is_used}
use Rattle.region_ctx.proofs.Ranges.{sum_by_range_step}
use Rattle.region_ctx.proofs.context.Context.first_travel.Goals as goal

pub loop-j-preserved : goal.loop-j-preserved
loop-j-preserved c =
    record {
      value =
          (λ x. c.loop-j.invariant.value x + c.first_length-sum.ensures.value x)
          ∙ sym (sum_by_range_step (λ k. if is_used c.args.self.now 0 k then travel c.args.inst.now 0 k else 0) 1 c.loop-j.j c.loop-j.auto.j);
      limit = omega arith;
    }
