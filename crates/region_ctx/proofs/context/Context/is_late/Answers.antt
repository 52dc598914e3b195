use Rattle.std.proofs.Common.{◌≡◌, true≢false, sym, refl, arith, subst, inl, inr}
use Rattle.std.proofs.lemmas.Bool.{cases_eq}
use Rattle.region_ctx.specs.Walks.{StartsLate}
use Rattle.region_ctx.proofs.Lateness.{late_starts, starts_late}
use Rattle.region_ctx.proofs.context.Context.is_late.Goals as goal

pub returns-then-begins_late : goal.returns-then-begins_late
returns-then-begins_late c = (λ _. starts_late c.args.inst.now c.args.self.now 0 (c.if-begins_late.ensures.0 refl), λ _. refl)

pub loop-call-init : goal.loop-call-init
loop-call-init c k low late =
    let first : k ≡ 0 = omega arith in
    true≢false (sym (c.if-begins_late.ensures.1 (subst (StartsLate c.args.inst.now c.args.self.now) first late)))

pub loop-call-preserved : goal.loop-call-preserved
loop-call-preserved c k high late =
    elim (cases_eq k c.loop-call.call) [
      | inl e ↦ true≢false (sym (c.if-goes_on_late.ensures.1 (subst (StartsLate c.args.inst.now c.args.self.now) e late)))
      | inr ne ↦ c.loop-call.invariant k (omega arith) late
    ]

pub returns-then-goes_on_late : goal.returns-then-goes_on_late
returns-then-goes_on_late c = (λ _. starts_late c.args.inst.now c.args.self.now c.loop-call.call (c.if-goes_on_late.ensures.0 refl), λ _. refl)

pub returns : goal.returns
returns c = (
  λ h. absurd (true≢false (sym h)),
  λ late.
      let s = late_starts c.args.inst.now c.args.self.now c.calls-call-end.ensures.single late in
      absurd (c.loop-call.invariant s.0 (omega arith) s.2),
)
