use Rattle.std.proofs.Common.{◌≤◌, length}
use Rattle.std.specs.List.{AllByRecursion}
use Rattle.orienteering.specs.Instance.{IsCallAmong}
use Rattle.relax_states.proofs.price_walks.walk_of.Given as goal

abbrev pub invariant-loop : goal.invariant-loop
invariant-loop l = record {
  calls : AllByRecursion (IsCallAmong l.last) l.calls.items;
  few : length l.calls.items ≤ l.counter;
}
