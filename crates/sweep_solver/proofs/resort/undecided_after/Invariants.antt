use Rattle.std.proofs.Common.{◌≡◌, ℕ, ◌<◌, ◌≤◌, false}
use Rattle.orienteering.specs.Region.{is_undecided}
use Rattle.sweep_solver.proofs.resort.undecided_after.Given as goal

abbrev pub invariant-loop-to : goal.invariant-loop-to
invariant-loop-to l = (k : ℕ) → 1 ≤ k → k < l.to → is_undecided l.ctx l.from k ≡ false
