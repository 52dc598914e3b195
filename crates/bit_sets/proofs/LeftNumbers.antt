-- The numbers that an iterator has left.
use Rattle.std.proofs.Common.{◌≡◌, ◌∙◌, ℕ, ◌+◌, ◌-◌, ◌*◌, ◌/◌, ◌%◌, ◌^◌, ◌<◌, ◌≤◌, ◌==◌, true, false, ◌⊎◌, inl, inr, ⊎_elim, List, [], ◌∷◌, length, get_or, set, nat_eq, filter, ap, sym, refl, arith, subst, bit_and, w64, length-set}
use Rattle.std.specs.Int.{bit_at, trailing_zeros}
use Rattle.std.specs.List.{range_with_len}
use Rattle.std.proofs.lemmas.Bool.{cases_eq, cases_lt, eq-eqb, eqb-true, or_left, or_right, or_cases, both_ways}
use Rattle.std.proofs.lemmas.List.{set-get_or}
use Rattle.std.proofs.lemmas.Nat.{div-add-mod', mod_below}
use Rattle.std.proofs.lemmas.Nat.Bits.{bit_at-zero, bit_at-trailing_zeros, bit_at_clear_same, bit_at_clear_other}
use Rattle.bit_sets.specs.NumberSet.{RisesFrom, member}
use Rattle.bit_sets.specs.NumberSetLaws.{member_above, rises_lower, same_members}
use Rattle.bit_sets.specs.Words.{has_bit, left_members, members}
use Rattle.bit_sets.proofs.Members.{has_bit-within, member_passes, passes_member, rises-filter}
use Rattle.bit_sets.proofs.SetBits.{has_bit-elsewhere, has_bit-written}

-- a number that is left has its bit in this word or a later one
pub record IsLeft (words : List ℕ) (place word x : ℕ) : Type 0 where
  pub onward : place ≤ x / 64
  pub bit : has_bit (set words place word) x ≡ true

pub left_if : (words : List ℕ) (place word x : ℕ) → IsLeft words place word x → member x (left_members words place word) ≡ true
unfolding left_members
left_if words place word x left =
    let parts = div-add-mod' x 64 in
    let within = has_bit-within (set words place word) x left.bit in
    let long = length-set words place word in
    let onward : place ≤ x / 64 = left.onward in
    passes_member (has_bit (set words place word)) (64 * place) (64 * (length words - place)) x left.bit (omega arith) (omega arith)

pub is_left : (words : List ℕ) (place word x : ℕ) → member x (left_members words place word) ≡ true → IsLeft words place word x
unfolding left_members
is_left words place word x has =
    let p = has_bit (set words place word) in
    let n = 64 * (length words - place) in
    let parts = div-add-mod' x 64 in
    let low = member_above (64 * place) (filter p (range_with_len (64 * place) n)) x (rises-filter p (64 * place) n) has in
    let rest = mod_below x 64 (omega arith) in
    record { onward = omega arith; bit = member_passes p (64 * place) n x has }

pub rises-left : (words : List ℕ) (place word : ℕ) → RisesFrom (64 * place) (left_members words place word)
unfolding left_members
rises-left words place word = rises-filter (has_bit (set words place word)) (64 * place) (64 * (length words - place))

rises-left_all : (words : List ℕ) (place word : ℕ) → RisesFrom 0 (left_members words place word)
rises-left_all words place word = rises_lower (64 * place) 0 (left_members words place word) (omega arith) (rises-left words place word)

-- all are left at the first word
pub left_members-all : (words : List ℕ) → left_members words 0 (get_or words 0 0) ≡ members words
unfolding left_members members
left_members-all words =
    let all : 64 * (length words - 0) ≡ 64 * length words = omega arith in
    ap (λ ws. filter (has_bit ws) (range_with_len (64 * 0) (64 * (length words - 0)))) (set-get_or words 0 0)
    ∙ ap (λ n. filter (has_bit words) (range_with_len 0 n)) all

has_bit-same : (words : List ℕ) (place x : ℕ) → has_bit (set words place (get_or words place 0)) x ≡ has_bit words x
has_bit-same words place x = ap (λ ws. has_bit ws x) (set-get_or words place 0)

-- the words from here on without this one, up to a later one, have no bit
module _ (words : List ℕ) (place next : ℕ) (within : place < length words) (later : place < next)
    (clear : (k : ℕ) → place < k → k < next → get_or words k 0 ≡ 0) where
  no_bit : (x : ℕ) → place ≤ x / 64 → x / 64 < next → has_bit (set words place 0) x ≡ false
  no_bit x low high =
      elim (cases_eq (x / 64) place) [
        | inl here ↦ has_bit-written words place 0 x within here ∙ ap (λ b. b == 1) (bit_at-zero (x % 64))
        | inr apart ↦
            has_bit-elsewhere words place 0 x apart
            ∙ (ap (λ w. bit_at w (x % 64) == 1) (clear (x / 64) (omega (arith, low, apart)) high) ∙ ap (λ b. b == 1) (bit_at-zero (x % 64)))
      ]

  pub left_members-next : left_members words next (get_or words next 0) ≡ left_members words place 0
  left_members-next =
      same_members 0 _ _ (rises-left_all words next (get_or words next 0)) (rises-left_all words place 0)
      (λ x has.
      let left = is_left words next (get_or words next 0) x has in
      let onward : next ≤ x / 64 = left.onward in
      left_if words place 0 x (record {
        onward = omega arith;
        bit = has_bit-elsewhere words place 0 x (λ here. omega (arith, here, onward)) ∙ (sym (has_bit-same words next x) ∙ left.bit);
      }))
      (λ x has.
      let left = is_left words place 0 x has in
      let onward : next ≤ x / 64 = ⊎_elim
      (λ (before : x / 64 < next). absurd (both_ways _ (no_bit x left.onward before) left.bit))
      (λ (after : next ≤ x / 64). after)
      (cases_lt (x / 64) next) in
      left_if words next (get_or words next 0) x (record {
        onward = onward;
        bit = has_bit-same words next x ∙ (sym (has_bit-elsewhere words place 0 x (λ here. omega (arith, here, onward))) ∙ left.bit);
      }))

  pub left_members-none : length words ≤ next → left_members words place 0 ≡ []
  left_members-none all =
      none_left (left_members words place 0) (λ x has.
      let left = is_left words place 0 x has in
      let bound = has_bit-within (set words place 0) x left.bit in
      let long = length-set words place 0 in
      both_ways _ (no_bit x left.onward (omega arith)) left.bit)
    where
      none_left : (xs : List ℕ) → ((x : ℕ) → member x xs ≡ true → ⊥) → xs ≡ []
      none_left [] f = refl
      none_left (x ∷ xs) f = absurd (f x (or_left _ _ (eq-eqb x x refl)))

rises_from : (low high : ℕ) (xs : List ℕ) → RisesFrom low xs → ((x : ℕ) → member x xs ≡ true → high ≤ x) → RisesFrom high xs
rises_from low high [] h f = tt
rises_from low high (x ∷ xs) h f = (f x (or_left _ _ (eq-eqb x x refl)), h.1)

-- the lowest bit of a word is the first number that is left, and the others are left when it is cleared
module _ (words : List ℕ) (place word : ℕ) (within : place < length words) (some : 0 < word) (fits : word < 2 ^ 64) where
  abbrev bit : ℕ
  bit = trailing_zeros w64 word

  abbrev rest : ℕ
  rest = bit_and word (18446744073709551615 - 1 * 2 ^ trailing_zeros w64 word % 18446744073709551616)

  low_bit : trailing_zeros w64 word < 64
  low_bit = (bit_at-trailing_zeros w64 word some fits).0

  here : (64 * place + bit) / 64 ≡ place
  here =
      let parts = div-add-mod' (64 * place + bit) 64 in
      let below = mod_below (64 * place + bit) 64 (omega arith) in
      let low = low_bit in
      omega arith

  there : (64 * place + bit) % 64 ≡ bit
  there = let parts = div-add-mod' (64 * place + bit) 64 in let at = here in omega arith

  is_first : IsLeft words place word (64 * place + bit)
  is_first = record {
    onward = let at = here in omega arith;
    bit =
        has_bit-written words place word (64 * place + bit) within here
        ∙ (ap (λ k. bit_at word k == 1) there ∙ eq-eqb _ _ (bit_at-trailing_zeros w64 word some fits).1);
  }

  kept : (x : ℕ) → IsLeft words place rest x → IsLeft words place word x × (64 * place + bit < x)
  kept x left =
      let onward : place ≤ x / 64 = left.onward in
      let parts = div-add-mod' x 64 in
      let low = low_bit in
      elim (cases_eq (x / 64) place) [
        | inl same ↦
            let on : bit_at rest (x % 64) ≡ 1 = eqb-true _ _ (sym (has_bit-written words place rest x within same) ∙ left.bit) in
            let small = mod_below x 64 (omega arith) in
            elim (cases_eq (x % 64) bit) [
              | inl cleared ↦
                  let off : bit_at rest (x % 64) ≡ 0 = ap (bit_at rest) cleared ∙ bit_at_clear_same w64 word bit low in
                  absurd (omega (arith, on, off))
              | inr other ↦
                  let old : bit_at word (x % 64) ≡ 1 = sym (bit_at_clear_other w64 word bit low (x % 64) small other) ∙ on in
                  let high : bit < x % 64 = ⊎_elim
                  (λ (before : x % 64 < bit). let off = (bit_at-trailing_zeros w64 word some fits).2 (x % 64) before in absurd (omega (arith, off, old)))
                  (λ (after : bit ≤ x % 64). omega (arith, after, other))
                  (cases_lt (x % 64) bit) in
                  (record { onward = onward; bit = has_bit-written words place word x within same ∙ eq-eqb _ _ old }, omega arith)
            ]
        | inr apart ↦ (
          record { onward = onward; bit = has_bit-elsewhere words place word x apart ∙ (sym (has_bit-elsewhere words place rest x apart) ∙ left.bit) },
          omega arith,
        )
      ]

  first_or_kept : (x : ℕ) → IsLeft words place word x → (x ≡ 64 * place + bit) ⊎ IsLeft words place rest x
  first_or_kept x left =
      let onward : place ≤ x / 64 = left.onward in
      let parts = div-add-mod' x 64 in
      let low = low_bit in
      elim (cases_eq (x / 64) place) [
        | inl same ↦
            let on : bit_at word (x % 64) ≡ 1 = eqb-true _ _ (sym (has_bit-written words place word x within same) ∙ left.bit) in
            let small = mod_below x 64 (omega arith) in
            elim (cases_eq (x % 64) bit) [
              | inl first ↦ inl (omega arith)
              | inr other ↦ inr (record {
                onward = onward;
                bit =
                    has_bit-written words place rest x within same
                    ∙ eq-eqb _ _ (bit_at_clear_other w64 word bit low (x % 64) small other ∙ on);
              })
            ]
        | inr apart ↦ inr (record {
          onward = onward;
          bit = has_bit-elsewhere words place rest x apart ∙ (sym (has_bit-elsewhere words place word x apart) ∙ left.bit);
        })
      ]

  pub left_members-first : left_members words place word ≡ (64 * place + bit) ∷ left_members words place rest
  left_members-first =
      same_members 0 _ _ (rises-left_all words place word) (
        omega arith,
        rises_from 0 (64 * place + bit + 1) (left_members words place rest) (rises-left_all words place rest)
            (λ x has. let above = (kept x (is_left words place rest x has)).1 in omega (arith, above)),
      )
      (λ x has.
      elim (first_or_kept x (is_left words place word x has)) [
        | inl first ↦ or_left _ _ (eq-eqb x (64 * place + bit) first)
        | inr left ↦ or_right _ _ (left_if words place rest x left)
      ])
      (λ x has.
      elim (or_cases (nat_eq x (64 * place + bit)) _ has) [
        | inl first ↦
            let same : x ≡ 64 * place + bit = eqb-true x (64 * place + bit) first in
            left_if words place word x (subst (IsLeft words place word) (sym same) is_first)
        | inr later ↦ left_if words place word x (kept x (is_left words place rest x later)).0
      ])
