use Rattle.std.proofs.Common.{ℕ, ◌≤◌}
use Rattle.std.specs.Prelude.{unsigned_abs}
use Rattle.label_engine.specs.Cut.{relaxed}
use Rattle.orienteering.specs.Instance.{calls}
use Rattle.orienteering.specs.Walk.{step_value}
use Rattle.label_engine.proofs.flagged_moves.FlaggedMoves.greatest_step.Given as goal

abbrev pub invariant-loop-index : goal.invariant-loop-index
invariant-loop-index l =
    (i j : ℕ) → i ≤ calls l.self.problem → 1 ≤ j → j ≤ l.index →
    unsigned_abs (step_value l.self.problem (relaxed l.self) i j) ≤ l.greatest
