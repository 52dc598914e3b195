use Rattle.std.proofs.Common.{◌≡◌}
use Rattle.dual_master.proofs.corners.CornerMaster.add.Given as goal

abbrev pub invariant-loop-call : goal.invariant-loop-call
invariant-loop-call l = l.self-inside.places ≡ l.initial.self-inside.places
