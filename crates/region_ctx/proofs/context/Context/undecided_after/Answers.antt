use Rattle.std.proofs.Common.{◌≤◌, sym, ◌∙◌, ◌+◌, ap, arith, cond}
use Rattle.orienteering.specs.Region.{is_undecided}
use Rattle.region_ctx.proofs.Ranges.{sum_by_range_step, as_number, as_number_limit}
use Rattle.region_ctx.proofs.context.Context.undecided_after.Goals as goal

pub loop-j-preserved : goal.loop-j-preserved
loop-j-preserved c =
    let one : c.from-count.result ≤ 1 = (let h = as_number_limit c.is_undecided.result in omega (arith, h, c.from-count.ensures)) in
    record {
      value =
          (λ x. c.loop-j.invariant.value x + (c.from-count.ensures ∙ as_number c.is_undecided.result ∙ ap (λ b. cond b 1 0) c.is_undecided.ensures) x)
          ∙ sym (sum_by_range_step (λ k. cond (is_undecided c.args.self.now c.args.i k) 1 0) 1 c.loop-j.j c.loop-j.auto.j);
      limit = omega arith;
    }
