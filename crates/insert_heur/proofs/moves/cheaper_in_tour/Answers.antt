use Rattle.std.proofs.Common.{arith}
use Rattle.insert_heur.proofs.TourLists.{spent_at-le}
use Rattle.insert_heur.proofs.moves.cheaper_in_tour.Goals as goal

pub overflow_sub-others : goal.overflow_sub-others
overflow_sub-others c =
    let taken = c.args.taken.now in
    omega (arith, c.travel_at.ensures.value, spent_at-le taken.inst.now taken.rest.now c.args.tour, taken.travelled)

pub cheaper_at-requires-clause-others : goal.cheaper_at-requires-clause-others
cheaper_at-requires-clause-others c =
    let taken = c.args.taken.now in
    omega (arith, c.travel_at.ensures.value, spent_at-le taken.inst.now taken.rest.now c.args.tour, taken.travelled)

pub cheaper_at-requires-clause-within : goal.cheaper_at-requires-clause-within
cheaper_at-requires-clause-within c = omega (arith, c.args.taken.now.within)
