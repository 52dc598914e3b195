use Rattle.std.proofs.Common.{◌≡◌, ◌*◌, ◌^◌, take}
use Rattle.orienteering.specs.Price.{prices_of}
use Rattle.price_bound.specs.Magnitude.{IsWithin}
use Rattle.dual_master.proofs.rating.prices_along.Given as goal

abbrev pub invariant-loop-call : goal.invariant-loop-call
invariant-loop-call l = record {
  value : l.sum ≡ prices_of l.price.pi (take l.call-index l.calls);
  within : IsWithin (l.call-index * 2 ^ 63) l.sum;
}
