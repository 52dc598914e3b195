use Rattle.std.proofs.Common.{◌∙◌, ap, sym, subst, subst₂}
use Rattle.orienteering.specs.Frontier.{AllRise, IsCovered}
use Rattle.orienteering.specs.declared.Point.{Point}
use Rattle.front_archive.specs.Archive.{with_entry, HoldsTheBest}
use Rattle.front_archive.proofs.Kept.{taken_holds, covered_holds}
use Rattle.front_archive.proofs.Archive.insert.Goals as goal

pub returns-then-some_covers-clause-best : goal.returns-then-some_covers-clause-best
returns-then-some_covers-clause-best c =
    covered_holds c.args.inst.now c.args.plan c.args.self.now (subst AllRise c.self.view_is c.self.invariant)
    (subst₂ IsCovered c.plan_point-point.ensures (c.as_slice.ensures.value ∙ c.self.view_is)
    (c.some_covers.ensures.0 c.if-some_covers.true))

pub returns-clause-taken : goal.returns-clause-taken
returns-clause-taken c =
    λ _. c.in_ok-put_in.ensures.ok
    ∙ ap (with_entry (record { point = c.plan_point-point.result; plan = c.args.plan })) c.self.view_is
    ∙ ap (λ (v : Point). with_entry (record { point = v; plan = c.args.plan }) c.args.self.now) c.plan_point-point.ensures

pub returns-clause-best : goal.returns-clause-best
returns-clause-best c =
    subst (HoldsTheBest c.args.inst.now c.args.plan c.args.self.now)
    (sym (c.in_ok-put_in.ensures.ok
    ∙ ap (with_entry (record { point = c.plan_point-point.result; plan = c.args.plan })) c.self.view_is
    ∙ ap (λ (v : Point). with_entry (record { point = v; plan = c.args.plan }) c.args.self.now) c.plan_point-point.ensures))
    (taken_holds c.args.inst.now c.args.plan c.args.self.now c.requires (subst AllRise c.self.view_is c.self.invariant)
    (λ covered.
    let is_covered = c.some_covers.ensures.1 (subst₂ IsCovered (sym c.plan_point-point.ensures) (sym (c.as_slice.ensures.value ∙ c.self.view_is)) covered) in
    let is_not = c.if-some_covers.false in
    cc))
