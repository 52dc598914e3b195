use Rattle.std.proofs.Common.{◌≡◌, length}
use Rattle.std.specs.Prelude.{All}
use Rattle.price_bound.specs.Magnitude.{IsWithin}
use Rattle.dual_master.specs.Search.{most_worth}
use Rattle.dual_master.proofs.table.sought.Given as goal

abbrev pub invariant-loop-price : goal.invariant-loop-price
invariant-loop-price l = record {
  size : length l.prices.items ≡ l.price-index;
  small : All (IsWithin most_worth) l.prices.items;
}
