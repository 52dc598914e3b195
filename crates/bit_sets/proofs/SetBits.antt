-- What a written word changes.
use Rattle.std.proofs.Common.{◌≡◌, ◌∙◌, ℕ, ◌*◌, ◌/◌, ◌%◌, ◌^◌, ◌-◌, ◌<◌, ◌==◌, ◌||◌, ◌&&◌, not, true, false, inl, inr, List, length, get_or, set, bit_and, bit_or, ap, sym, arith, w64}
use Rattle.std.specs.Int.{bit_at}
use Rattle.std.proofs.lemmas.Bool.{cases_eq, eq-eqb, ne_eqb}
use Rattle.std.proofs.lemmas.List.{get_or-set_same, get_or-set_other}
use Rattle.std.proofs.lemmas.Nat.{div-add-mod', mod_below}
use Rattle.std.proofs.lemmas.Nat.Bits.{bit_at_set_same, bit_at_set_other, bit_at_clear_same, bit_at_clear_other}
use Rattle.bit_sets.specs.Words.{has_bit}

-- the bit of a number whose word was written, and of any other
pub has_bit-written : (words : List ℕ) (place word y : ℕ) → place < length words → y / 64 ≡ place →
    has_bit (set words place word) y ≡ (bit_at word (y % 64) == 1)
has_bit-written words place word y within here =
    ap (λ p. bit_at (get_or (set words place word) p 0) (y % 64) == 1) here
    ∙ ap (λ w. bit_at w (y % 64) == 1) (get_or-set_same words place word 0 within)

pub has_bit-elsewhere : (words : List ℕ) (place word y : ℕ) → (y / 64 ≡ place → ⊥) → has_bit (set words place word) y ≡ has_bit words y
has_bit-elsewhere words place word y apart =
    ap (λ w. bit_at w (y % 64) == 1) (get_or-set_other words place (y / 64) word 0 apart)

same_parts : (x y : ℕ) → y / 64 ≡ x / 64 → y % 64 ≡ x % 64 → y ≡ x
same_parts x y quotient rest = let a = div-add-mod' x 64 in let b = div-add-mod' y 64 in omega arith

module _ (words : List ℕ) (x : ℕ) (within : x / 64 < length words) where
  abbrev word : ℕ
  word = get_or words (x / 64) 0

  small : x % 64 < 64
  small = mod_below x 64 (omega arith)

  abbrev with_bit : ℕ
  with_bit = bit_or (get_or words (x / 64) 0) (1 * 2 ^ (x % 64) % 18446744073709551616)

  abbrev without_bit : ℕ
  without_bit = bit_and (get_or words (x / 64) 0) (18446744073709551615 - 1 * 2 ^ (x % 64) % 18446744073709551616)

  pub has_bit-set : (y : ℕ) → has_bit (set words (x / 64) with_bit) y ≡ (y == x || has_bit words y)
  has_bit-set y =
      elim (cases_eq (y / 64) (x / 64)) [
        | inl here ↦
            let written = has_bit-written words (x / 64) with_bit y within here in
            elim (cases_eq (y % 64) (x % 64)) [
              | inl same ↦
                  let is : (y == x) ≡ true = eq-eqb y x (same_parts x y here same) in
                  rw is (written ∙ (ap (λ k. bit_at with_bit k == 1) same ∙ ap (λ b. b == 1) (bit_at_set_same w64 word (x % 64) small)))
              | inr apart ↦
                  let other : (y == x) ≡ false = ne_eqb y x (λ e. apart (ap (λ n. n % 64) e)) in
                  rw other (written ∙ (ap (λ b. b == 1) (bit_at_set_other w64 word (x % 64) small (y % 64) apart)
                  ∙ ap (λ i. bit_at (get_or words i 0) (y % 64) == 1) (sym here)))
            ]
        | inr apart ↦
            let other : (y == x) ≡ false = ne_eqb y x (λ e. apart (ap (λ n. n / 64) e)) in
            rw other (has_bit-elsewhere words (x / 64) with_bit y apart)
      ]

  pub has_bit-cleared : (y : ℕ) → has_bit (set words (x / 64) without_bit) y ≡ (not (y == x) && has_bit words y)
  has_bit-cleared y =
      elim (cases_eq (y / 64) (x / 64)) [
        | inl here ↦
            let written = has_bit-written words (x / 64) without_bit y within here in
            elim (cases_eq (y % 64) (x % 64)) [
              | inl same ↦
                  let is : (y == x) ≡ true = eq-eqb y x (same_parts x y here same) in
                  rw is (written ∙ (ap (λ k. bit_at without_bit k == 1) same ∙ ap (λ b. b == 1) (bit_at_clear_same w64 word (x % 64) small)))
              | inr apart ↦
                  let other : (y == x) ≡ false = ne_eqb y x (λ e. apart (ap (λ n. n % 64) e)) in
                  rw other (written ∙ (ap (λ b. b == 1) (bit_at_clear_other w64 word (x % 64) small (y % 64) (mod_below y 64 (omega arith)) apart)
                  ∙ ap (λ i. bit_at (get_or words i 0) (y % 64) == 1) (sym here)))
            ]
        | inr apart ↦
            let other : (y == x) ≡ false = ne_eqb y x (λ e. apart (ap (λ n. n / 64) e)) in
            rw other (has_bit-elsewhere words (x / 64) without_bit y apart)
      ]
