use Rattle.std.proofs.Common.{◌+◌, ◌∙◌, take, drop, ap, sym}
use Rattle.insert_heur.specs.Walk.{stepped, walked}
use Rattle.insert_heur.proofs.Walks.{late_before, late_there, late_behind, at_home, rest_slice, travelled_at}
use Rattle.insert_heur.proofs.walk.time_with.Goals as goal

pub returns-in_err-reached-clause-value : goal.returns-in_err-reached-clause-value
returns-in_err-reached-clause-value c =
    c.from_residual.ensures
    ∙ sym (late_before c.args.inst.now (take c.args.position c.args.tour.now) c.args.call (drop c.args.position c.args.tour.now)
    (ap (λ k. walked c.args.inst.now (record { place = 0; clock = k; travelled = 0 }) (take c.args.position c.args.tour.now)) (sym c.opening.ensures.value)
    ∙ sym c.walk.ensures.value ∙ c.in_err-reached.was))

pub returns-in_err-visited-clause-value : goal.returns-in_err-visited-clause-value
returns-in_err-visited-clause-value c =
    c.from_residual-in_err-visited.ensures
    ∙ sym (late_there c.args.inst.now (take c.args.position c.args.tour.now) c.args.call (drop c.args.position c.args.tour.now) c.in_ok-reached.reached
    (ap (λ k. walked c.args.inst.now (record { place = 0; clock = k; travelled = 0 }) (take c.args.position c.args.tour.now)) (sym c.opening.ensures.value)
    ∙ sym c.walk.ensures.value ∙ c.in_ok-reached.was)
    (sym c.step.ensures.value ∙ c.in_err-visited.was))

pub returns-in_err-done-clause-value : goal.returns-in_err-done-clause-value
returns-in_err-done-clause-value c =
    c.from_residual-in_err-done.ensures
    ∙ sym (late_behind c.args.inst.now (take c.args.position c.args.tour.now) c.args.call (drop c.args.position c.args.tour.now) c.in_ok-reached.reached c.in_ok-visited.visited
    (ap (λ k. walked c.args.inst.now (record { place = 0; clock = k; travelled = 0 }) (take c.args.position c.args.tour.now)) (sym c.opening.ensures.value)
    ∙ sym c.walk.ensures.value ∙ c.in_ok-reached.was)
    (sym c.step.ensures.value ∙ c.in_ok-visited.was) (ap (walked c.args.inst.now c.in_ok-visited.visited) (sym (rest_slice c.args.position c.args.tour.now)) ∙ sym c.walk-2.ensures.value ∙ c.in_err-done.was))

pub returns-in_err-home-clause-value : goal.returns-in_err-home-clause-value
returns-in_err-home-clause-value c =
    c.from_residual-in_err-home.ensures
    ∙ sym (at_home c.args.inst.now (take c.args.position c.args.tour.now) c.args.call (drop c.args.position c.args.tour.now) c.in_ok-reached.reached c.in_ok-visited.visited c.in_ok-done.done
    (ap (λ k. walked c.args.inst.now (record { place = 0; clock = k; travelled = 0 }) (take c.args.position c.args.tour.now)) (sym c.opening.ensures.value)
    ∙ sym c.walk.ensures.value ∙ c.in_ok-reached.was)
    (sym c.step.ensures.value ∙ c.in_ok-visited.was) (ap (walked c.args.inst.now c.in_ok-visited.visited) (sym (rest_slice c.args.position c.args.tour.now)) ∙ sym c.walk-2.ensures.value ∙ c.in_ok-done.was)
    ∙ ap travelled_at (ap (λ n. stepped c.args.inst.now c.in_ok-done.done (n + 1)) (sym c.calls.ensures.value)
    ∙ sym c.step-2.ensures.value ∙ c.in_err-home.was))

pub returns-clause-value : goal.returns-clause-value
returns-clause-value c =
    sym (at_home c.args.inst.now (take c.args.position c.args.tour.now) c.args.call (drop c.args.position c.args.tour.now) c.in_ok-reached.reached c.in_ok-visited.visited c.in_ok-done.done
    (ap (λ k. walked c.args.inst.now (record { place = 0; clock = k; travelled = 0 }) (take c.args.position c.args.tour.now)) (sym c.opening.ensures.value)
    ∙ sym c.walk.ensures.value ∙ c.in_ok-reached.was)
    (sym c.step.ensures.value ∙ c.in_ok-visited.was) (ap (walked c.args.inst.now c.in_ok-visited.visited) (sym (rest_slice c.args.position c.args.tour.now)) ∙ sym c.walk-2.ensures.value ∙ c.in_ok-done.was)
    ∙ ap travelled_at (ap (λ n. stepped c.args.inst.now c.in_ok-done.done (n + 1)) (sym c.calls.ensures.value)
    ∙ sym c.step-2.ensures.value ∙ c.in_ok-home.was))
