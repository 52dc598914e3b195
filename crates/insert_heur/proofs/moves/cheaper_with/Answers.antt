use Rattle.std.proofs.Common.{◌∙◌, ap, sym, subst}
use Rattle.insert_heur.specs.Improvement.{without_call}
use Rattle.insert_heur.specs.Walk.{AreTours}
use Rattle.insert_heur.proofs.TourLists.{plan_tours, rest_tours}
use Rattle.insert_heur.proofs.moves.cheaper_with.Goals as goal

pub total_travel-requires : goal.total_travel-requires
total_travel-requires c =
    let p = c.args.inst.now in
    subst (AreTours p)
    (sym (c.as_slice-2.ensures.value ∙ c.in_ok-rest.ensures ∙ ap (λ ts. without_call ts c.args.call) c.tours.ensures))
    (rest_tours p c.args.call c.args.plan.now (plan_tours p c.args.plan.now c.calls-calls.ensures.instance c.requires.plan))

pub cheaper_anywhere-requires : goal.cheaper_anywhere-requires
cheaper_anywhere-requires c =
    let p = c.args.inst.now in
    record {
      tours = subst (AreTours p)
          (sym (c.as_slice.ensures.value ∙ c.in_ok-rest.ensures ∙ ap (λ ts. without_call ts c.args.call) c.tours.ensures))
          (rest_tours p c.args.call c.args.plan.now (plan_tours p c.args.plan.now c.calls-calls.ensures.instance c.requires.plan));
    }
