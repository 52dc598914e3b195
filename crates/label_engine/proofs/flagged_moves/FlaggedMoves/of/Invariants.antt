use Rattle.std.proofs.Common.{◌≡◌, ℕ, ◌+◌, ◌<◌, length, get_or}
use Rattle.label_engine.specs.Cut.{IsVisit}
use Rattle.label_engine.specs.declared.visit.Visit.{Visit}
use Rattle.label_engine.proofs.flagged_moves.FlaggedMoves.of.Given as goal

abbrev pub invariant-loop-index : goal.invariant-loop-index
invariant-loop-index l = record {
  count : length l.visits.items ≡ l.index;
  each : (k : ℕ) (d : Visit) → k < length l.visits.items → IsVisit l.cut (k + 1) (get_or l.visits.items k d);
}
