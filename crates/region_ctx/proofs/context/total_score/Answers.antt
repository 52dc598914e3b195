use Rattle.std.proofs.Common.{sym, ◌∙◌, ◌+◌, arith}
use Rattle.orienteering.specs.Instance.{site}
use Rattle.region_ctx.proofs.Ranges.{sum_by_range_step}
use Rattle.region_ctx.proofs.context.total_score.Goals as goal

pub loop-call-preserved : goal.loop-call-preserved
loop-call-preserved c =
    record {
      value =
          (λ x. c.loop-call.invariant.value x + (c.from-sum.ensures ∙ c.score.ensures.value) x)
          ∙ sym (sum_by_range_step (λ k. (site c.args.inst.now k).score) 1 c.loop-call.call c.loop-call.auto.call);
      limit = omega arith;
    }
