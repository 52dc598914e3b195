use Rattle.std.proofs.Common.{true≢false, sym, arith, subst, inl, inr}
use Rattle.std.proofs.lemmas.Bool.{cases_eq}
use Rattle.region_ctx.specs.Walks.{ComesBack}
use Rattle.region_ctx.proofs.Cycles.{cycle_comes_back}
use Rattle.region_ctx.proofs.context.Context.has_cycle.Goals as goal

pub loop-call-preserved : goal.loop-call-preserved
loop-call-preserved c k low high back =
    elim (cases_eq k c.loop-call.call) [
      | inl e ↦ true≢false (sym (c.if-comes_back.ensures.1 (subst (ComesBack c.args.self.now) e back)))
      | inr ne ↦ c.loop-call.invariant k low (omega arith) back
    ]

pub returns : goal.returns
returns c = (
  (λ h. absurd (true≢false (sym h))),
  λ h. let b = cycle_comes_back c.args.self.now c.calls-call-end.ensures.single h in absurd (c.loop-call.invariant b.0 b.1 (omega arith) b.3),
)
