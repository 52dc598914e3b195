use Rattle.std.proofs.Common.{◌∙◌, ap, sym, subst, length, ◌≤◌, arith}
use Rattle.std.specs.List.{AllByRecursion}
use Rattle.orienteering.specs.Instance.{IsCall}
use Rattle.orienteering.specs.Tour.{tour_time}
use Rattle.insert_heur.proofs.PlanCalls.{AllByRecursion-at}
use Rattle.insert_heur.proofs.Growth.{spent_inside, spent_behind}
use Rattle.insert_heur.proofs.travel.travel_at.Goals as goal

pub travel-requires-clause-calls : goal.travel-requires-clause-calls
travel-requires-clause-calls c =
    subst (AllByRecursion (IsCall c.args.inst.now)) (sym (c.calls.ensures ∙ c.index-tours-tour.is))
    (AllByRecursion-at (AllByRecursion (IsCall c.args.inst.now)) c.args.tours.now c.args.tour c.index-tours-tour.result c.if-tour-tours.true c.requires.calls)

pub travel-requires-clause-few : goal.travel-requires-clause-few
travel-requires-clause-few c =
    let short = AllByRecursion-at (λ t. length t ≤ 300) c.args.tours.now c.args.tour c.index-tours-tour.result c.if-tour-tours.true c.requires.short in
    omega (arith, short, ap length (c.calls.ensures ∙ c.index-tours-tour.is))

pub returns-then-tour-tours-clause-value : goal.returns-then-tour-tours-clause-value
returns-then-tour-tours-clause-value c =
    c.travel.ensures.value
    ∙ ap (tour_time c.args.inst.now) (c.calls.ensures ∙ c.index-tours-tour.is)
    ∙ sym (spent_inside c.args.inst.now c.args.tours.now c.args.tour c.index-tours-tour.result c.if-tour-tours.true)

pub returns-then-tour-tours-clause-within : goal.returns-then-tour-tours-clause-within
returns-then-tour-tours-clause-within c =
    let short = AllByRecursion-at (λ t. length t ≤ 300) c.args.tours.now c.args.tour c.index-tours-tour.result c.if-tour-tours.true c.requires.short in
    omega (arith, short, c.travel.ensures.within, ap length (c.calls.ensures ∙ c.index-tours-tour.is))

pub returns-else-tour-tours-clause-value : goal.returns-else-tour-tours-clause-value
returns-else-tour-tours-clause-value c = sym (spent_behind c.args.inst.now c.args.tours.now c.args.tour c.if-tour-tours.false)
