use Rattle.std.proofs.Common.{ℕ, ◌<◌, ◌≤◌}
use Rattle.std.specs.Prelude.{unsigned_abs}
use Rattle.label_engine.specs.Cut.{relaxed}
use Rattle.orienteering.specs.Walk.{step_value}
use Rattle.label_engine.proofs.flagged_moves.FlaggedMoves.greatest_step_to.Given as goal

abbrev pub invariant-loop-from : goal.invariant-loop-from
invariant-loop-from l = (i : ℕ) → i < l.from → unsigned_abs (step_value l.self.problem (relaxed l.self) i l.to) ≤ l.greatest
