use Rattle.std.proofs.Common.{◌≡◌, length}
use Rattle.std.specs.Prelude.{All}
use Rattle.price_bound.specs.Magnitude.{IsWithin}
use Rattle.dual_master.specs.Search.{most_worth}
use Rattle.dual_master.proofs.corners.CornerMaster.prices.Given as goal

abbrev pub invariant-loop-call : goal.invariant-loop-call
invariant-loop-call l = record {
  size : length l.prices.items ≡ l.call;
  small : All (IsWithin most_worth) l.prices.items;
}
