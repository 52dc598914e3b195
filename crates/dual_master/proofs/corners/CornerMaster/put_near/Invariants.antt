use Rattle.std.proofs.Common.{◌≤◌, All, length}
use Rattle.std.specs.List.{Contains}
use Rattle.dual_master.proofs.corners.CornerMaster.put_near.Given as goal

abbrev pub invariant-loop-place : goal.invariant-loop-place
invariant-loop-place l = record {
  places : All (Contains l.self) l.near.items;
  few : length l.near.items ≤ 400;
}
