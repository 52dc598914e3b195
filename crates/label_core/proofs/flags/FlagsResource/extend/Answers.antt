use Rattle.std.proofs.Common.{◌∙◌, ◌<◌, Some, ap, sym}
use Rattle.label_core.specs.Critical.{critical_after}
use Rattle.label_core.proofs.WordFlags.{critical_after-held, critical_after-free}
use Rattle.label_core.proofs.flags.FlagsResource.extend.Goals as goal

pub returns-then-self-number-eq1 : goal.returns-then-self-number-eq1
returns-then-self-number-eq1 c =
    let x = c.in-Some.number in
    let low : x < 64 = c.step.invariant x c.in-Some.is in
    sym (critical_after-held c.self.inside.word x low c.if-self-number-eq1.true)
    ∙ (ap (λ held. critical_after held (Some x)) c.self.view_is
    ∙ ap (critical_after c.args.self.now) (sym c.in-Some.is ∙ c.step.view_is))

pub returns-else-self-number-eq1 : goal.returns-else-self-number-eq1
returns-else-self-number-eq1 c =
    let x = c.in-Some.number in
    let low : x < 64 = c.step.invariant x c.in-Some.is in
    sym (critical_after-free c.self.inside.word x low c.if-self-number-eq1.false)
    ∙ (ap (λ held. critical_after held (Some x)) c.self.view_is
    ∙ ap (critical_after c.args.self.now) (sym c.in-Some.is ∙ c.step.view_is))
