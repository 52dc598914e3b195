use Rattle.std.proofs.Common.{◌≤◌, length}
use Rattle.relax_states.proofs.price_walks.best_closed.Given as goal

abbrev pub invariant-loop-place : goal.invariant-loop-place
invariant-loop-place l = record {
  next : (goal.iterator-loop-place).can_next l.place-iterator;
  ends : (goal.iterator-loop-place).is_finite l.place-iterator;
  few : length l.best.items ≤ 40;
}
