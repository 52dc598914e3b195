use Rattle.std.proofs.Common.{◌*◌}
use Rattle.price_bound.specs.Magnitude.{IsWithin}
use Rattle.dual_master.specs.Search.{most_worth}
use Rattle.dual_master.proofs.search.sum_of.Given as goal

abbrev pub invariant-loop-price : goal.invariant-loop-price
invariant-loop-price l = IsWithin (l.price-index * most_worth) l.sum
