use Rattle.std.proofs.Common.{◌∙◌, ◌++◌, ◌∷◌, [], ap, sym, arith}
use Rattle.insert_heur.specs.Candidates.{candidate_at}
use Rattle.insert_heur.proofs.Ranges.{filter_map_one, filter_map_none}
use Rattle.insert_heur.proofs.TourLists.{plan_tours}
use Rattle.insert_heur.proofs.candidates.add_at_tour.Goals.{in-Some+in_ok-push, in_default}
use Rattle.insert_heur.proofs.candidates.add_at_tour.Goals as goal

pub loop-position-preserved : goal.loop-position-preserved
loop-position-preserved c =
    let at = candidate_at c.args.inst.now c.args.weight c.args.plan.now c.args.call c.args.tour in
    elim c.match-at.branch [
      | in-Some+in_ok-push w ↦
          ap (λ v. v.items) w.found-is
          ∙ w.in_ok-push.ensures.items
          ∙ ap (λ xs. xs ++ w.in-Some.candidate ∷ []) c.loop-position.invariant
          ∙ filter_map_one at c.args.found.now.items 0 c.loop-position.position c.loop-position.position w.in-Some.candidate
          (omega arith) (sym c.candidate_at-at.ensures ∙ w.in-Some.is)
      | in_default w ↦
          ap (λ v. v.items) w.found-is
          ∙ c.loop-position.invariant
          ∙ filter_map_none at c.args.found.now.items 0 c.loop-position.position c.loop-position.position (omega arith)
          (sym c.candidate_at-at.ensures ∙ w.in_default.is)
    ]

pub travel_at-spent-requires : goal.travel_at-spent-requires
travel_at-spent-requires c = plan_tours c.args.inst.now c.args.plan.now c.calls-calls.ensures.instance c.requires.plan
