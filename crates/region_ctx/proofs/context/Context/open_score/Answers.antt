use Rattle.std.proofs.Common.{sym, ◌∙◌, ◌+◌, arith, if◌then◌else◌}
use Rattle.orienteering.specs.Instance.{site}
use Rattle.orienteering.specs.Region.{can_be_entered}
use Rattle.region_ctx.proofs.Ranges.{sum_by_range_step}
use Rattle.region_ctx.proofs.context.Context.open_score.Goals as goal

pub loop-call-preserved : goal.loop-call-preserved
loop-call-preserved c =
    record {
      value =
          (λ x. c.loop-call.invariant.value x + c.score_to_come-sum.ensures.value x)
          ∙ sym (sum_by_range_step (λ k. if can_be_entered c.args.self.now k then (site c.args.inst.now k).score else 0) 1 c.loop-call.call c.loop-call.auto.call);
      limit = omega arith;
    }
