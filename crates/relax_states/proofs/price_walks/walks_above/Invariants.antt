use Rattle.std.proofs.Common.{◌≤◌, All, length}
use Rattle.relax_states.specs.BestWalks.{IsWalkAmong}
use Rattle.relax_states.proofs.price_walks.walks_above.Given as goal

abbrev pub invariant-loop-one : goal.invariant-loop-one
invariant-loop-one l = record {
  among : All (IsWalkAmong l.last) l.walks.items;
  few : length l.walks.items ≤ l.one-index;
}
