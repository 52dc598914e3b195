use Rattle.std.proofs.Common.{◌≡◌, ◌*◌, ◌^◌, take}
use Rattle.orienteering.specs.Price.{sum_of_prices}
use Rattle.price_bound.specs.Magnitude.{IsWithin}
use Rattle.price_bound.proofs.dual.sum_of_prices.Given as goal

abbrev pub invariant-loop-entry : goal.invariant-loop-entry
invariant-loop-entry l = record {
  value : l.sum ≡ sum_of_prices (take l.entry-index l.entries);
  within : IsWithin (l.entry-index * 2 ^ 63) l.sum;
}
