-- The laws of worths with sums of 8 bytes.
use Rattle.std.specs.Prelude.{◌≡◌, ℤ, ◌+ℤ◌, int_le, FitsSigned, true, refl}
use Rattle.std.specs.Int.{w64}
use Rattle.std.proofs.Common.{sym, ap, ◌∙◌, arith}
use Rattle.std.proofs.lemmas.Int.{ints}
use Rattle.std.proofs.lemmas.Option.{same_Some}
use Rattle.label_core.specs.Resource.{Laws}
use Rattle.label_engine.specs.SmallSums.{small_clamped, small_worth_rules, IsSmallWorth, IsSmallGain}

le_reflexive : (a : ℤ) → int_le a a ≡ true
le_reflexive a = grind (arith, ints)

le_transitive : (a b c : ℤ) → int_le b a ≡ true → int_le c b ≡ true → int_le c a ≡ true
le_transitive a b c p q = grind (arith, ints)

le_antisymmetric : (a b : ℤ) → int_le b a ≡ true → int_le a b ≡ true → a ≡ b
le_antisymmetric a b p q = grind (arith, ints)

small_clamped_keeps_order : (a b by : ℤ) → int_le b a ≡ true → int_le (small_clamped (b +ℤ by)) (small_clamped (a +ℤ by)) ≡ true
small_clamped_keeps_order a b by p = grind (arith, ints)

small_clamped_fits : (z : ℤ) → FitsSigned w64 (small_clamped z)
small_clamped_fits z = grind (arith, ints)

pub small_worth_laws : Laws small_worth_rules IsSmallWorth IsSmallGain
small_worth_laws = record {
  reflexive = λ a f. le_reflexive a.sum;
  transitive = λ a b c f g h p q. le_transitive a.sum b.sum c.sum p q;
  antisymmetric = λ a b f g p q. ap (λ sum. record { sum = sum }) (le_antisymmetric a.sum b.sum p q);
  extends = λ a b gain b' f g s p e. record {
    after = record { sum = small_clamped (a.sum +ℤ gain.by) };
    extends = refl;
    ordered = ap (λ w. int_le w.sum (small_clamped (a.sum +ℤ gain.by))) (sym (same_Some _ _ e)) ∙ small_clamped_keeps_order a.sum b.sum gain.by p;
  };
  fits = λ a gain a' f s e. record { sum = rw (sym (ap (λ w. w.sum) (same_Some _ _ e))) (small_clamped_fits (a.sum +ℤ gain.by)) };
}
