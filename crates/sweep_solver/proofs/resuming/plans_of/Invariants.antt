use Rattle.std.proofs.Common.{◌≡◌, take}
use Rattle.std.specs.Prelude.{map}
use Rattle.sweep_solver.proofs.resuming.plans_of.Given as goal

abbrev pub invariant-loop-listed : goal.invariant-loop-listed
invariant-loop-listed l = l.plans.items ≡ map (λ listed. listed.plan) (take l.listed-index l.points)
