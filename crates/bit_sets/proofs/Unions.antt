-- The bits of words that were united.
use Rattle.std.proofs.Common.{◌≡◌, ◌∙◌, ℕ, ◌/◌, ◌%◌, ◌<◌, ◌≤◌, ◌==◌, ◌||◌, Bool, true, false, ⊎_elim, List, length, get_or, bit_or, max, drop, ap, sym, refl, arith}
use Rattle.std.specs.Int.{bit_at}
use Rattle.std.proofs.lemmas.Bool.{cases_lt}
use Rattle.std.proofs.lemmas.Bool.Decides.{nat_tests}
use Rattle.std.proofs.lemmas.List.{get_or_past, take-append-le, take_all}
use Rattle.std.specs.List.{refill}
use Rattle.std.proofs.lemmas.Nat.Bits.{bit_at-lt, bit_at-zero, bit_at_or}
use Rattle.bit_sets.specs.NumberSet.{united}
use Rattle.bit_sets.specs.NumberSetLaws.{member-united, rises-united}
use Rattle.bit_sets.specs.Words.{has_bit, members}
use Rattle.bit_sets.proofs.Members.{member-members, members_from, rises-members}

either_bit : (a b : ℕ) → a < 2 → b < 2 → (max a b == 1) ≡ (a == 1 || b == 1)
either_bit a b low lower = grind (arith, nat_tests)

-- each word of the first was joined with the word of the others there
pub has_bit-united : (old new others : List ℕ) → length others ≤ length old
    → ((k : ℕ) → k < length others → get_or new k 0 ≡ bit_or (get_or old k 0) (get_or others k 0))
    → ((k : ℕ) → length others ≤ k → get_or new k 0 ≡ get_or old k 0)
    → (y : ℕ) → has_bit new y ≡ (has_bit old y || has_bit others y)
has_bit-united old new others short joined kept y =
    ⊎_elim
    (λ (within : y / 64 < length others).
    ap (λ w. bit_at w (y % 64) == 1) (joined (y / 64) within)
    ∙ (ap (λ b. b == 1) (bit_at_or (get_or old (y / 64) 0) (get_or others (y / 64) 0) (y % 64))
    ∙ either_bit _ _ (bit_at-lt (get_or old (y / 64) 0) (y % 64)) (bit_at-lt (get_or others (y / 64) 0) (y % 64))))
    (λ (past : length others ≤ y / 64).
    let none : has_bit others y ≡ false =
    ap (λ w. bit_at w (y % 64) == 1) (get_or_past others (y / 64) 0 past) ∙ ap (λ b. b == 1) (bit_at-zero (y % 64)) in
    ap (λ w. bit_at w (y % 64) == 1) (kept (y / 64) past) ∙ sym (ap (λ b. has_bit old y || b) none ∙ or_false (has_bit old y)))
    (cases_lt (y / 64) (length others))
  where
    or_false : (b : Bool) → (b || false) ≡ b
    or_false true = refl
    or_false false = refl

or_turned : (a b : Bool) → (a || b) ≡ (b || a)
or_turned true true = refl
or_turned true false = refl
or_turned false true = refl
or_turned false false = refl

pub members-united : (new xs ys : List ℕ) → ((z : ℕ) → has_bit new z ≡ (has_bit xs z || has_bit ys z)) → members new ≡ united (members xs) (members ys)
members-united new xs ys same =
    members_from new (united (members xs) (members ys)) (rises-united 0 (members xs) (members ys) (rises-members xs) (rises-members ys))
    (λ z. same z ∙ (sym (λ i. member-members xs z i || member-members ys z i) ∙ sym (member-united (members xs) (members ys) z)))

pub members-united_turned : (new xs ys : List ℕ) → ((z : ℕ) → has_bit new z ≡ (has_bit ys z || has_bit xs z)) → members new ≡ united (members xs) (members ys)
members-united_turned new xs ys same = members-united new xs ys (λ z. same z ∙ or_turned (has_bit ys z) (has_bit xs z))

-- a slice written back whole
pub refill-whole : (xs ws : List ℕ) → length ws ≡ length xs → refill (length xs) xs ws ≡ ws
refill-whole xs ws same =
    take-append-le (length xs) ws (drop (length ws) xs) (omega (arith, same)) ∙ take_all (length xs) ws (omega (arith, same))
