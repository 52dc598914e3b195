use Rattle.std.proofs.Common.{◌≡◌, ◌+◌, ◌≤◌, ℕ, List, ◌++◌, None, Some, length, take, get_or, sym, ap, subst, ◌∙◌, arith}
use Rattle.std.specs.List.{concat}
use Rattle.orienteering.specs.PlanCheck.{tour_refusal, first_shared}
use Rattle.orienteering.proofs.PlanCheck.{tour_right}
use Rattle.orienteering.proofs.Tours.{next_tour, concat_take_more}
use Rattle.bit_sets.specs.NumberSet.{IsSmall}
use Rattle.tour_check.specs.Seen.{HasSame}
use Rattle.tour_check.proofs.SharedCall.{plan_refusal-shared}
use Rattle.tour_check.proofs.Sums.{small_calls}
use Rattle.tour_check.proofs.refusal.plan_refusal.Goals as goal

pub returns-in-Some-first_shared : goal.returns-in-Some-first_shared
returns-in-Some-first_shared c =
    let p = c.args.inst.now in
    let plan = c.args.plan.now in
    let i = c.loop-i.i in
    let tour = c.index-plan-i.result in
    let earlier = concat (take i plan) in
    let few : length plan ≤ p.team = omega (arith, c.team.ensures.value, c.if-team-plan.false) in
    let right : tour_refusal p tour ≡ None =
    ap (tour_refusal p) (sym c.calls.ensures) ∙ sym c.tour_refusal.ensures ∙ c.in_default.is in
    let shared : first_shared earlier tour ≡ Some c.in-Some-first_shared.call =
    ap (first_shared earlier) (sym c.calls-in-loop-i.ensures) ∙ sym (c.first_shared.ensures earlier c.loop-i.invariant.held) ∙ c.in-Some-first_shared.is in
    sym (plan_refusal-shared p plan i c.in-Some-first_shared.call tour few c.loop-i-test.true c.index-plan-i.is right shared c.loop-i.invariant.same)

pub hold_tour-requires : goal.hold_tour-requires
hold_tour-requires c =
    let tour = c.index-plan-i.result in
    let right : tour_refusal c.args.inst.now tour ≡ None =
    ap (tour_refusal c.args.inst.now) (sym c.calls.ensures) ∙ sym c.tour_refusal.ensures ∙ c.in_default.is in
    subst IsSmall (sym c.calls-in-loop-i-2.ensures)
    (small_calls c.args.inst.now tour (omega (arith, c.calls-calls.ensures.value, c.calls-calls.ensures.within)) (tour_right c.args.inst.now tour right).calls)

pub loop-i-preserved : goal.loop-i-preserved
loop-i-preserved c =
    let p = c.args.inst.now in
    let plan = c.args.plan.now in
    let i = c.loop-i.i in
    let tour = c.index-plan-i.result in
    let earlier = concat (take i plan) in
    let right : tour_refusal p tour ≡ None =
    ap (tour_refusal p) (sym c.calls.ensures) ∙ sym c.tour_refusal.ensures ∙ c.in_default.is in
    let apart : first_shared earlier tour ≡ None =
    ap (first_shared earlier) (sym c.calls-in-loop-i.ensures) ∙ sym (c.first_shared.ensures earlier c.loop-i.invariant.held) ∙ c.in_default-first_shared.is in
    let more : earlier ++ c.calls-in-loop-i-2.result.now ≡ concat (take (i + 1) plan) =
    ap (λ x. earlier ++ x) (c.calls-in-loop-i-2.ensures ∙ c.index-plan-i.is) ∙ sym (concat_take_more plan i tour c.loop-i-test.true) in
    record {
      held = subst (λ xs. HasSame c.hold_tour.new.earlier xs) more (c.hold_tour.ensures earlier c.loop-i.invariant.held);
      same = c.loop-i.invariant.same ∙ next_tour p plan i tour c.loop-i-test.true c.index-plan-i.is right apart;
    }
