use Rattle.std.proofs.Common.{◌+◌, sym, ◌∙◌, subst, arith}
use Rattle.orienteering.specs.Region.{IsRealised}
use Rattle.sweep_solver.proofs.Gathered.{IsGathered, gathered_is_realised, none_gathered, none_more, tour_gathered}
use Rattle.sweep_solver.proofs.resort.plan_of_used_arcs.Goals as goal
use Rattle.sweep_solver.proofs.resort.plan_of_used_arcs.Goals.{then-is_used+in_ok-tour_from+in_ok-push, else-is_used}

pub loop-first-init : goal.loop-first-init
loop-first-init c same q is =
    none_gathered c.args.inst.now c.args.ctx.now same q is c.new-tours.result.items c.new-tours.ensures.items

pub loop-first-preserved : goal.loop-first-preserved
loop-first-preserved c same q is =
    let p = c.args.inst.now in
    let r = c.args.ctx.now in
    let k = c.loop-first.first in
    let before = c.loop-first.invariant same q is in
    elim c.if-is_used.branch as (λ _. IsGathered p r same q is (k + 1) c.if-is_used.tours.items) [
      | then-is_used+in_ok-tour_from+in_ok-push w ↦
          subst (λ v. IsGathered p r same q is (k + 1) v.items) (sym w.tours-is)
          (tour_gathered p r same q is k c.loop-first.tours.items w.push.new.self.items w.in_ok-tour_from.field-0
          (sym c.is_used.ensures ∙ w.if-is_used.true) w.in_ok-tour_from.ensures w.in_ok-push.ensures.items before)
      | else-is_used w ↦
          subst (λ v. IsGathered p r same q is (k + 1) v.items) (sym w.tours-is)
          (none_more p r same q is k c.loop-first.tours.items (sym c.is_used.ensures ∙ w.if-is_used.false) before)
    ]

pub returns : goal.returns
returns c q is =
    let p = c.args.inst.now in
    let r = c.args.ctx.now in
    let end = c.loop-first.first in
    subst (IsRealised p r) (sym c.from_tours.ensures)
    (gathered_is_realised p r c.requires q is c.loop-first.tours.items
    (subst (λ k. IsGathered p r c.requires q is k c.loop-first.tours.items) (omega (arith, c.calls-first-end.ensures.value, c.loop-first.auto.first))
    (c.loop-first.invariant c.requires q is)))
