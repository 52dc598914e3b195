use Rattle.std.proofs.Common.{◌≡◌}
use Rattle.dual_master.proofs.corners.CornerMaster.focus.Given as goal

abbrev pub invariant-loop-column : goal.invariant-loop-column
invariant-loop-column l = l.self-inside.places ≡ l.initial.self-inside.places
