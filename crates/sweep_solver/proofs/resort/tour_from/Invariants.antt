use Rattle.std.proofs.Common.{ℕ, List, length, ◌≤◌, ◌-◌}
use Rattle.sweep_solver.specs.UsedTours.{IsUsedTour}
use Rattle.sweep_solver.proofs.UsedTours.{IsOnTheWay}
use Rattle.sweep_solver.proofs.resort.tour_from.Given as goal

abbrev pub invariant-loop-calls : goal.invariant-loop-calls
invariant-loop-calls l = record {
  low : 1 ≤ l.place;
  way : (used : List ℕ) → IsUsedTour l.ctx l.first used → IsOnTheWay l.ctx used l.calls.items l.place;
}

abbrev pub decreases-loop-calls : goal.decreases-loop-calls
decreases-loop-calls l = l.n - length l.calls.items
