use Rattle.std.proofs.Common.{All}
use Rattle.dual_master.specs.Corners.{IsShareAmong}
use Rattle.dual_master.proofs.corners.CornerMaster.shares.Given as goal

abbrev pub invariant-loop-column : goal.invariant-loop-column
invariant-loop-column l = All (IsShareAmong l.self) l.shares.items
