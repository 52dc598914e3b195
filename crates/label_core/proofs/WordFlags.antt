-- The bits of one word, as a set of numbers below 64.
use Rattle.std.proofs.Common.{◌≡◌, ◌∙◌, ℕ, zero, suc, ◌*◌, ◌/◌, ◌%◌, ◌^◌, ◌<◌, ◌==◌, ◌||◌, true, false, List, [], ◌∷◌, None, Some, ⊎_elim, get_or, set, length, bit_and, bit_or, nat_eq, ap, sym, subst, refl, arith}
use Rattle.std.specs.Int.{bit_at}
use Rattle.std.specs.List.{AllByRecursion}
use Rattle.std.proofs.lemmas.Bool.{cases_Bool, cond-true, cond-false, eqb-true, eq-eqb, ne_eqb, false_from_ne_true, both_ways, or_left, or_right}
use Rattle.std.proofs.lemmas.Nat.{div-add-mod'}
use Rattle.std.proofs.lemmas.Nat.Bits.{shr_and_one}
use Rattle.bit_sets.specs.NumberSet.{inserted, is_subset, member}
use Rattle.bit_sets.specs.Words.{has_bit, members}
use Rattle.bit_sets.proofs.Members.{has_bit-within, member-members, members-set, rises-members, subset-words, words-subset}
use Rattle.bit_sets.proofs.SetBits.{has_bit-set}
use Rattle.label_core.specs.Critical.{critical_after}
use Rattle.label_core.specs.Flags.{IsFlags}

pub members-zero : members (0 ∷ []) ≡ []
unfolding members
members-zero = refl

low_div : (x : ℕ) → x < 64 → x / 64 ≡ 0
low_div x low = let parts = div-add-mod' x 64 in omega arith

low_mod : (x : ℕ) → x < 64 → x % 64 ≡ x
low_mod x low = let parts = div-add-mod' x 64 in let first = low_div x low in omega arith

-- the test that the code makes says whether the number is held
pub member-word : (word x : ℕ) → x < 64 → member x (members (word ∷ [])) ≡ (bit_and (word / 2 ^ x) 1 == 1)
member-word word x low =
    member-members (word ∷ []) x
    ∙ (ap (λ place. bit_at (get_or (word ∷ []) place 0) (x % 64) == 1) (low_div x low)
    ∙ (ap (λ i. bit_at word i == 1) (low_mod x low) ∙ ap (λ b. b == 1) (sym (shr_and_one word x))))

-- the word with one more bit is the set with one more number
pub members-word_set : (word x : ℕ) → x < 64 → members (bit_or word (1 * 2 ^ x % 18446744073709551616) ∷ []) ≡ inserted x (members (word ∷ []))
members-word_set word x low =
    let here = low_div x low in
    let within : x / 64 < length (word ∷ []) = rw here (omega arith) in
    let set_there : (y : ℕ) → has_bit (bit_or word (1 * 2 ^ x % 18446744073709551616) ∷ []) y ≡ (y == x || has_bit (word ∷ []) y) =
    λ y. subst (λ i. has_bit (bit_or word (1 * 2 ^ i % 18446744073709551616) ∷ []) y ≡ (y == x || has_bit (word ∷ []) y)) (low_mod x low)
    (subst (λ p. has_bit (set (word ∷ []) p (bit_or (get_or (word ∷ []) p 0) (1 * 2 ^ (x % 64) % 18446744073709551616))) y ≡ (y == x || has_bit (word ∷ []) y)) here
    (has_bit-set (word ∷ []) x within y)) in
    members-set (word ∷ []) (bit_or word (1 * 2 ^ x % 18446744073709551616) ∷ []) x set_there

pub critical_after-held : (word x : ℕ) → x < 64 → bit_and (word / 2 ^ x) 1 ≡ 1 → critical_after (members (word ∷ [])) (Some x) ≡ None
critical_after-held word x low is =
    cond-true (member x (members (word ∷ []))) None (Some (inserted x (members (word ∷ [])))) (member-word word x low ∙ eq-eqb _ _ is)

pub critical_after-free : (word x : ℕ) → x < 64 → (bit_and (word / 2 ^ x) 1 ≡ 1 → ⊥)
    → critical_after (members (word ∷ [])) (Some x) ≡ Some (members (bit_or word (1 * 2 ^ x % 18446744073709551616) ∷ []))
critical_after-free word x low apart =
    cond-false (member x (members (word ∷ []))) None (Some (inserted x (members (word ∷ [])))) (member-word word x low ∙ ne_eqb _ _ apart)
    ∙ ap (λ held. Some held) (sym (members-word_set word x low))

pub is_subset-words : (a b : ℕ) → a < 2 ^ 64 → is_subset (members (a ∷ [])) (members (b ∷ [])) ≡ nat_eq (bit_and a b) a
is_subset-words a b fits =
    ⊎_elim
    (λ within. subset-words (a ∷ []) (b ∷ []) (first (eqb-true _ _ within)) ∙ sym within)
    (λ (apart : nat_eq (bit_and a b) a ≡ false). false_from_ne_true _ (λ subset.
    both_ways _ apart (eq-eqb _ _ (words-subset (a ∷ []) (b ∷ []) 0 fits subset))) ∙ sym apart)
    (cases_Bool (nat_eq (bit_and a b) a))
  where
    first : bit_and a b ≡ a → (k : ℕ) → k < length (a ∷ []) → bit_and (get_or (a ∷ []) k 0) (get_or (b ∷ []) k 0) ≡ get_or (a ∷ []) k 0
    first within zero low = within
    first within (suc k) low = absurd (omega arith)

low_from : (xs : List ℕ) → ((z : ℕ) → member z xs ≡ true → z < 64) → AllByRecursion (λ x. x < 64) xs
low_from [] f = tt
low_from (x ∷ xs) f = (f x (or_left _ _ (eq-eqb x x refl)), low_from xs (λ z e. f z (or_right _ _ e)))

pub flags_of_word : (word : ℕ) → IsFlags (members (word ∷ []))
flags_of_word word = record {
  rising = rises-members (word ∷ []);
  low = low_from (members (word ∷ [])) (λ x is. has_bit-within (word ∷ []) x (sym (member-members (word ∷ []) x) ∙ is));
}
