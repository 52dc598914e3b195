use Rattle.std.proofs.Common.{◌≡◌, ℕ, List}
use Rattle.orienteering.specs.Instance.{calls}
use Rattle.orienteering.specs.Region.{IsRealised}
use Rattle.sweep_solver.proofs.Gathered.{IsGathered}
use Rattle.sweep_solver.proofs.resort.plan_of_used_arcs.Given as goal

abbrev pub invariant-loop-first : goal.invariant-loop-first
invariant-loop-first l =
    (same : l.ctx.calls ≡ calls l.inst) (q : List (List ℕ)) (is : IsRealised l.inst l.ctx q) →
    IsGathered l.inst l.ctx same q is l.first l.tours.items
