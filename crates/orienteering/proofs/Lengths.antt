-- The scaled length is the greatest that fits into the distance.
use Rattle.std.proofs.Common.{◌≡◌, ℕ, zero, suc, ◌+◌, ◌*◌, ◌/◌, ◌^◌, ◌≤◌, inl, inr, Bool, true, false, cond, refl, subst, arith, sym, ap, ◌∙◌}
use Rattle.std.proofs.lemmas.Bool.{leb-true, le-leb, cases_lt, cases_eq, false≢true}
use native.Mathlib.Nat.{pow-suc, pow-zero}
use Rattle.std.proofs.Math.Nat.{mul-le-mul_left, mul-le-mul_right}
use Rattle.orienteering.specs.Instance.{greatest_passing, fits_distance, scaled_length, IsGreatestLength, LengthsAreGreatest}

passing : (test : ℕ → Bool) (bound : ℕ) → test 0 ≡ true → test (greatest_passing test bound) ≡ true
unfolding greatest_passing
passing test zero z = z
passing test (suc k) z =
    elim (test (suc k)) as (λ b. test (suc k) ≡ b → test (cond b (suc k) (greatest_passing test k)) ≡ true) [
      | true ↦ λ e. e
      | false ↦ λ e. passing test k z
    ] refl

above_all : (test : ℕ → Bool) (bound u : ℕ) → u ≤ bound → test u ≡ true → u ≤ greatest_passing test bound
unfolding greatest_passing
above_all test zero u h t = h
above_all test (suc k) u h t =
    elim (test (suc k)) as (λ b. test (suc k) ≡ b → u ≤ cond b (suc k) (greatest_passing test k)) [
      | true ↦ λ e. h
      | false ↦ λ e. elim (cases_eq u (suc k)) [
        | inl same ↦ absurd (false≢true (subst (λ b. b ≡ true) e (subst (λ n. test n ≡ true) same t)))
        | inr apart ↦ above_all test k u (below u k h apart) t
      ]
    ] refl
  where
    below : (u k : ℕ) → u ≤ suc k → (u ≡ suc k → ⊥) → u ≤ k
    below u k h ne = elim (cases_lt k u) [ inl more ↦ absurd (ne (omega arith)) | inr less ↦ less ]

pub square : (n : ℕ) → n ^ 2 ≡ n * n
square n =
    let one : n ^ 1 ≡ n =
    pow-suc n 0 ∙ ap (λ m. m * n) (pow-zero n) ∙ (let e : 1 * n ≡ n = omega arith in e) in
    pow-suc n 1 ∙ ap (λ m. m * n) one

expanded : (s x y : ℕ) → (s * (x + y)) * (s * (x + y)) ≡ (s * s) * (x * x + y * y) + 2 * ((s * x) * (s * y))
expanded s x y = grind arith

square_of_sum : (s x y : ℕ) → (s * (x + y)) * (s * (x + y)) ≡ s ^ 2 * (x ^ 2 + y ^ 2) + 2 * ((s * x) * (s * y))
square_of_sum s x y =
    expanded s x y
    ∙ ap (λ n. n * (x * x + y * y) + 2 * ((s * x) * (s * y))) (sym (square s))
    ∙ ap (λ n. s ^ 2 * (n + y * y) + 2 * ((s * x) * (s * y))) (sym (square x))
    ∙ ap (λ n. s ^ 2 * (x ^ 2 + n) + 2 * ((s * x) * (s * y))) (sym (square y))

smaller_root : (m w d : ℕ) → d ≤ m * m → w * w ≤ d → w ≤ m
smaller_root m w d h k =
    elim (cases_lt m w) [
      | inl more ↦
          let a : (m + 1) * (m + 1) ≤ (m + 1) * w = mul-le-mul_left (m + 1) (omega arith) in
          let b : (m + 1) * w ≤ w * w = mul-le-mul_right w (omega arith) in
          let c : (m + 1) * (m + 1) ≡ m * m + 2 * m + 1 = grind arith in
          absurd (omega arith)
      | inr less ↦ less
    ]

below_quotient : (u m : ℕ) → u * 10000 ≤ m → u ≤ m / 10000
below_quotient u m h = omega arith

within_search : (scale dx dy u : ℕ) → (u * 10 ^ 4) ^ 2 ≤ scale ^ 2 * (dx ^ 2 + dy ^ 2) → u ≤ scale * (dx + dy) / 10 ^ 4
within_search scale dx dy u h =
    let w = u * 10 ^ 4 in
    let m = scale * (dx + dy) in
    let sum : m * m ≡ scale ^ 2 * (dx ^ 2 + dy ^ 2) + 2 * ((scale * dx) * (scale * dy)) = square_of_sum scale dx dy in
    let root : w ^ 2 ≡ w * w = square w in
    let small : w ≤ m = smaller_root m w (scale ^ 2 * (dx ^ 2 + dy ^ 2)) (omega arith) (omega arith) in
    below_quotient u m small

pub length_is_greatest : (scale dx dy : ℕ) → IsGreatestLength scale dx dy (scaled_length scale dx dy)
unfolding scaled_length
length_is_greatest scale dx dy =
    record {
      fits = leb-true _ _ (passing (fits_distance scale dx dy) (scale * (dx + dy) / 10 ^ 4) (le-leb _ _ (omega arith)));
      greatest = λ u h. above_all (fits_distance scale dx dy) (scale * (dx + dy) / 10 ^ 4) u (within_search scale dx dy u h) (le-leb _ _ h);
    }

one_greatest : (scale dx dy t u : ℕ) → IsGreatestLength scale dx dy t → IsGreatestLength scale dx dy u → t ≡ u
one_greatest scale dx dy t u a b =
    let up : t ≤ u = b.greatest t a.fits in let down : u ≤ t = a.greatest u b.fits in omega arith

pub lengths_are_greatest : LengthsAreGreatest
lengths_are_greatest scale dx dy t = (
  λ e. subst (IsGreatestLength scale dx dy) (sym e) (length_is_greatest scale dx dy),
  λ g. one_greatest scale dx dy t (scaled_length scale dx dy) g (length_is_greatest scale dx dy),
)
