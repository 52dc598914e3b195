use Rattle.std.proofs.Common.{ℕ, ◌<◌}
use Rattle.insert_heur.specs.Improvement.{IsNoCheaperInTour}
use Rattle.insert_heur.proofs.moves.cheaper_anywhere.Given as goal

abbrev pub invariant-loop-tour : goal.invariant-loop-tour
invariant-loop-tour l = (k : ℕ) → k < l.tour → IsNoCheaperInTour l.taken.inst.now l.taken.time l.taken.rest.now l.taken.call k
