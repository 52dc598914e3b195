use Rattle.std.proofs.Common.{sym, ◌∙◌, ◌+◌, arith, count_by}
use Rattle.orienteering.specs.Region.{is_undecided}
use Rattle.orienteering.specs.Instance.{targets}
use Rattle.region_ctx.proofs.Ranges.{sum_by_range_step}
use Rattle.region_ctx.proofs.context.Context.undecided.Goals as goal

pub loop-i-preserved : goal.loop-i-preserved
loop-i-preserved c =
    record {
      value =
          (λ x. c.loop-i.invariant.value x + c.undecided_after-count.ensures.value x)
          ∙ sym (sum_by_range_step (λ i. count_by (is_undecided c.args.self.now i) (targets c.args.self.now.calls)) 0 c.loop-i.i (omega arith));
      limit = omega arith;
    }
