use Rattle.std.proofs.Common.{◌≡◌, ◌++◌}
use Rattle.std.specs.List.{filter_map, range_with_len}
use Rattle.insert_heur.specs.Candidates.{candidate_at}
use Rattle.insert_heur.proofs.candidates.add_at_tour.Given as goal

abbrev pub invariant-loop-position : goal.invariant-loop-position
invariant-loop-position l = l.found.items ≡ l.fn.found.items ++ filter_map (candidate_at l.inst l.weight l.plan l.call l.tour) (range_with_len 0 l.position)
