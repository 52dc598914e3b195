use Rattle.std.proofs.Common.{◌≡◌, ℕ, ◌<◌, false}
use Rattle.orienteering.specs.Region.{is_undecided}
use Rattle.sweep_solver.proofs.resort.undecided_arc.Given as goal

abbrev pub invariant-loop-from : goal.invariant-loop-from
invariant-loop-from l = (k : ℕ) → k < l.from → (j : ℕ) → is_undecided l.ctx k j ≡ false
