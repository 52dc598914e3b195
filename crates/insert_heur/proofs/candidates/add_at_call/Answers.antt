use Rattle.std.proofs.Common.{◌∙◌, ◌++◌, ap, sym, append-nil, arith}
use Rattle.insert_heur.specs.Candidates.{at_tour}
use Rattle.insert_heur.proofs.Ranges.{flat_map_one}
use Rattle.insert_heur.proofs.Growth.{visited_none}
use Rattle.insert_heur.proofs.candidates.add_at_call.Goals as goal

pub loop-tour-preserved : goal.loop-tour-preserved
loop-tour-preserved c =
    let at = at_tour c.args.inst.now c.args.weight c.args.plan.now c.args.call in
    c.in_ok-add_at_tour.ensures
    ∙ ap (λ xs. xs ++ at c.loop-tour.tour) c.loop-tour.invariant
    ∙ flat_map_one at c.args.found.now.items 0 c.loop-tour.tour c.loop-tour.tour (omega arith)

pub returns-then-some_visits : goal.returns-then-some_visits
returns-then-some_visits c =
    sym (ap (λ xs. c.args.found.now.items ++ xs)
    (visited_none c.args.inst.now c.args.weight c.args.plan.now c.args.call (sym c.some_visits.ensures ∙ c.if-some_visits.true))
    ∙ append-nil c.args.found.now.items)
