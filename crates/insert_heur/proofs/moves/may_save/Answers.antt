use Rattle.std.proofs.Common.{◌+◌, ◌∙◌, nat_lt, ap, sym, arith}
use Rattle.std.proofs.lemmas.Bool.{OnFalse_from}
use Rattle.std.specs.List.{insert}
use Rattle.insert_heur.specs.Improvement.{IsNoCheaper}
use Rattle.insert_heur.specs.Walk.{time_of}
use Rattle.insert_heur.proofs.Growth.{late_is_no_plan, time_beside}
use Rattle.insert_heur.proofs.Refused.{not_less}
use Rattle.insert_heur.proofs.moves.may_save.Goals as goal

pub returns-in-Some : goal.returns-in-Some
returns-in-Some c =
    let taken = c.args.taken.now in
    let timed = ap (λ calls. time_of taken.inst.now (insert calls c.args.position taken.call)) (sym c.tour_at.ensures)
    ∙ sym c.time_with.ensures.value ∙ c.in-Some.is in
    let is = time_beside taken.inst.now taken.rest.now taken.call c.args.tour c.args.position c.args.others c.in-Some.travelled
    (c.requires.others ∙ taken.travelled) timed in
    OnFalse_from (nat_lt (c.args.others + c.in-Some.travelled) taken.time)
    (IsNoCheaper taken.inst.now taken.time taken.rest.now taken.call c.args.tour c.args.position)
    (λ e valid. omega (arith, not_less (c.args.others + c.in-Some.travelled) taken.time e, is))

pub returns-in-None : goal.returns-in-None
returns-in-None c =
    let taken = c.args.taken.now in
    let timed = ap (λ calls. time_of taken.inst.now (insert calls c.args.position taken.call)) (sym c.tour_at.ensures)
    ∙ sym c.time_with.ensures.value ∙ c.in-None.is in
    λ valid. absurd (late_is_no_plan taken.inst.now taken.rest.now taken.call c.args.tour c.args.position timed valid)
