use Rattle.std.proofs.Common.{◌≡◌, ◌+◌, drop, None}
use Rattle.orienteering.specs.PlanCheck.{points_refusal}
use Rattle.proof_check.proofs.points.points_refusal.Given as goal

abbrev pub invariant-loop-index : goal.invariant-loop-index
invariant-loop-index l = points_refusal l.inst None 1 l.points ≡ points_refusal l.inst l.before (l.index + 1) (drop l.index l.points)
