-- How many bits are set.
use Rattle.std.proofs.Common.{◌≡◌, ◌∙◌, ℕ, zero, suc, ◌+◌, ◌*◌, ◌/◌, ◌%◌, ◌^◌, ◌<◌, ◌≤◌, ◌==◌, Bool, List, ◌∷◌, ◌++◌, length, get_or, count_ones, filter, ap, sym, refl, arith, length-append, pow-suc}
use Rattle.std.specs.Int.{bit_at}
use Rattle.std.specs.Int.Count.{ones_step}
use Rattle.std.specs.List.{range_with_len}
use Rattle.std.proofs.lemmas.Bool.{cond_both, eqb-true, eqb-false}
use Rattle.std.proofs.lemmas.List.Elements.{filter-append}
use Rattle.std.proofs.lemmas.Nat.{ones_le_self}
use Rattle.std.proofs.lemmas.Nat.Bits.{bit_at_lowest, bit_at-suc}
use Rattle.std.proofs.lemmas.List.Sums.{length-filter, count_by-le-length}
use Rattle.std.proofs.lemmas.List.FromFn.{length-range_with_len}
use Rattle.bit_sets.specs.Words.{has_bit, members}
use Rattle.bit_sets.proofs.Members.{has_bit-at}

range-append : (a n m : ℕ) → range_with_len a (n + m) ≡ range_with_len a n ++ range_with_len (a + n) m
range-append a zero m =
    let none : 0 + m ≡ m = omega arith in
    let same : a + 0 ≡ a = omega arith in
    ap (range_with_len a) none ∙ sym (ap (λ b. range_with_len b m) same)
range-append a (suc n) m =
    let more : suc n + m ≡ suc (n + m) = omega arith in
    let same : (a + 1) + n ≡ a + suc n = omega arith in
    ap (range_with_len a) more ∙ (ap (λ xs. a ∷ xs) (range-append (a + 1) n m) ∙ ap (λ b. a ∷ (range_with_len (a + 1) n ++ range_with_len b m)) same)

-- the numbers of a word's ones
pub length-ones : (p : ℕ → Bool) (a n word : ℕ) → word < 2 ^ n → ((i : ℕ) → i < n → p (a + i) ≡ (bit_at word i == 1))
    → length (filter p (range_with_len a n)) ≡ count_ones word
length-ones p a zero word small same =
    let none : word ≡ 0 = omega (arith, small) in
    omega (arith, none, ones_le_self word)
length-ones p a (suc n) word small same =
    let half : word / 2 < 2 ^ n = omega (arith, small, pow-suc 2 n) in
    let rest : length (filter p (range_with_len (a + 1) n)) ≡ count_ones (word / 2) =
    length-ones p (a + 1) n (word / 2) half (λ i low.
    let next : a + suc i ≡ (a + 1) + i = omega arith in
    sym (ap p next) ∙ (same (suc i) (omega (arith, low)) ∙ ap (λ b. b == 1) (bit_at-suc word i))) in
    let here : p a ≡ (word % 2 == 1) =
    let first : a ≡ a + 0 = omega arith in
    ap p first ∙ (same 0 (omega arith) ∙ ap (λ b. b == 1) (bit_at_lowest word)) in
    cond_both (p a) (a ∷ filter p (range_with_len (a + 1) n)) (filter p (range_with_len (a + 1) n)) (λ xs. length xs ≡ count_ones word)
    (λ on.
    let one : word % 2 ≡ 1 = eqb-true _ _ (sym here ∙ on) in
    omega (arith, one, rest, ones_step word))
    (λ off.
    let other = eqb-false _ _ (sym here ∙ off) in
    omega (arith, other, rest, ones_step word))

-- one more word
pub length-members_more : (words : List ℕ) (k : ℕ) → get_or words k 0 < 2 ^ 64
    → length (filter (has_bit words) (range_with_len 0 (64 * (k + 1)))) ≡ length (filter (has_bit words) (range_with_len 0 (64 * k))) + count_ones (get_or words k 0)
length-members_more words k small =
    let more : 64 * (k + 1) ≡ 64 * k + 64 = omega arith in
    let start : 0 + 64 * k ≡ 64 * k = omega arith in
    let split : filter (has_bit words) (range_with_len 0 (64 * (k + 1))) ≡ filter (has_bit words) (range_with_len 0 (64 * k)) ++ filter (has_bit words) (range_with_len (64 * k) 64) =
    ap (λ n. filter (has_bit words) (range_with_len 0 n)) more
    ∙ (ap (filter (has_bit words)) (range-append 0 (64 * k) 64 ∙ ap (λ a. range_with_len 0 (64 * k) ++ range_with_len a 64) start)
    ∙ filter-append (has_bit words) (range_with_len 0 (64 * k)) (range_with_len (64 * k) 64)) in
    ap length split
    ∙ (length-append (filter (has_bit words) (range_with_len 0 (64 * k))) (filter (has_bit words) (range_with_len (64 * k) 64))
    ∙ ap (λ n. length (filter (has_bit words) (range_with_len 0 (64 * k))) + n)
    (length-ones (has_bit words) (64 * k) 64 (get_or words k 0) small (λ i low. has_bit-at words k i low)))

pub few_members : (words : List ℕ) (k : ℕ) → length (filter (has_bit words) (range_with_len 0 (64 * k))) ≤ 64 * k
few_members words k =
    omega (arith, length-filter (has_bit words) (range_with_len 0 (64 * k)), count_by-le-length (has_bit words) (range_with_len 0 (64 * k)), length-range_with_len 0 (64 * k))

pub length-all_members : (words : List ℕ) → length (members words) ≡ length (filter (has_bit words) (range_with_len 0 (64 * length words)))
unfolding members
length-all_members words = refl
