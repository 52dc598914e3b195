use Rattle.std.proofs.Common.{ℕ, ◌<◌}
use Rattle.insert_heur.specs.Improvement.{IsNoCheaper}
use Rattle.insert_heur.proofs.moves.cheaper_in_tour.Given as goal

abbrev pub invariant-loop-position : goal.invariant-loop-position
invariant-loop-position l = (k : ℕ) → k < l.position → IsNoCheaper l.taken.inst.now l.taken.time l.taken.rest.now l.taken.call l.tour k
