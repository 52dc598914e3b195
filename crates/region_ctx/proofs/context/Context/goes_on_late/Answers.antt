use Rattle.std.proofs.Common.{◌∙◌, true≢false, sym, subst}
use Rattle.region_ctx.specs.Walks.{IsLateFrom}
use Rattle.region_ctx.proofs.context.Context.goes_on_late.Goals as goal

pub returns-in-None : goal.returns-in-None
returns-in-None c = (
  λ h. absurd (true≢false (sym h)),
  λ late. absurd (true≢false (sym late.1 ∙ c.in-None.ensures.none late.0)),
)

pub returns-in-Some : goal.returns-in-Some
returns-in-Some c = (
  λ h. (c.in-Some.next, c.in-Some.ensures.used, c.runs_late.ensures.0 h),
  λ late. c.runs_late.ensures.1 (subst (IsLateFrom c.args.inst.now c.args.self.now c.args.call) (c.in-Some.ensures.alone late.0 late.1) late.2),
)
