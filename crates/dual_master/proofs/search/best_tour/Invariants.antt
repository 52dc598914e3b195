use Rattle.std.proofs.Common.{◌*◌, length}
use Rattle.std.specs.Prelude.{IfSome}
use Rattle.price_bound.specs.Magnitude.{IsWithin}
use Rattle.dual_master.specs.Search.{IsSpan, most_worth}
use Rattle.dual_master.proofs.search.best_tour.Given as goal

abbrev pub invariant-loop-span : goal.invariant-loop-span
invariant-loop-span l = record {
  span : IfSome l.best (λ best. IsSpan (length l.tours.calls.items) best.span);
  value : IfSome l.best (λ best. IsWithin (301 * most_worth) best.value);
}
