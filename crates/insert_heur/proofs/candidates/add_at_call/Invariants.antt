use Rattle.std.proofs.Common.{◌≡◌, ◌++◌}
use Rattle.std.specs.List.{flat_map, range_with_len}
use Rattle.insert_heur.specs.Candidates.{at_tour}
use Rattle.insert_heur.proofs.candidates.add_at_call.Given as goal

abbrev pub invariant-loop-tour : goal.invariant-loop-tour
invariant-loop-tour l = l.found.items ≡ l.fn.found.items ++ flat_map (at_tour l.inst l.weight l.plan l.call) (range_with_len 0 l.tour)
