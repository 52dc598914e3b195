-- Tests and sums over a range of numbers.
use Rattle.std.proofs.Common.{◌≡◌, ℕ, zero, suc, ◌+◌, ◌-◌, ◌<◌, ◌≤◌, Bool, true, false, cond, inl, inr, true≢false, [], ◌∷◌, ◌++◌, refl, sym, ◌∙◌, ap, arith, sum_by, add-zero}
use Rattle.std.specs.List.{range_with_len, list_any}
use mir.Val.{bool_byte}
use Rattle.std.proofs.lemmas.Bool.{cases_eq, cond-false, cond-true, false_from_ne_true}
use Rattle.std.proofs.lemmas.List.Sums.{sum_by-cons, sum_by_push}
use Rattle.orienteering.proofs.Members.{member_of_range, range_of_member, some_passes, one_that_passes}

pub one_in_range : (t : ℕ → Bool) (a n k : ℕ) → a ≤ k → k < a + n → t k ≡ true → list_any t (range_with_len a n) ≡ true
one_in_range t a n k low high h = some_passes t k (range_with_len a n) (member_of_range a n k low high) h

pub none_in_range : (t : ℕ → Bool) (a n : ℕ) → ((k : ℕ) → a ≤ k → k < a + n → t k ≡ false) → list_any t (range_with_len a n) ≡ false
none_in_range t a n none =
    false_from_ne_true _ (λ h.
    let one = one_that_passes t (range_with_len a n) h in
    let within = range_of_member a n one.0 one.1 in
    true≢false (sym one.2 ∙ none one.0 within.0 within.1))

range_more : (a n : ℕ) → range_with_len a (suc n) ≡ range_with_len a n ++ (a + n) ∷ []
range_more a zero = ap (λ k. k ∷ []) (sym (add-zero a))
range_more a (suc n) = ap (λ ks. a ∷ ks) (range_more (a + 1) n ∙ ap (λ k. range_with_len (a + 1) n ++ k ∷ []) (let e : a + 1 + n ≡ a + suc n = omega arith in e))

pub sum_by_range_more : (f : ℕ → ℕ) (a n : ℕ) → sum_by f (range_with_len a (suc n)) ≡ sum_by f (range_with_len a n) + f (a + n)
sum_by_range_more f a n = ap (sum_by f) (range_more a n) ∙ sum_by_push f (range_with_len a n) (a + n)

-- one more number, as at a step of a loop
pub sum_by_range_step : (f : ℕ → ℕ) (a i : ℕ) → a ≤ i → sum_by f (range_with_len a (i + 1 - a)) ≡ sum_by f (range_with_len a (i - a)) + f i
sum_by_range_step f a i low =
    let e : i + 1 - a ≡ suc (i - a) = omega arith in
    let at : a + (i - a) ≡ i = omega arith in
    ap (λ n. sum_by f (range_with_len a n)) e ∙ sum_by_range_more f a (i - a) ∙ ap (λ k. sum_by f (range_with_len a (i - a)) + f k) at

-- a `bool` as a number
pub as_number : (b : Bool) → bool_byte b ≡ cond b 1 0
as_number true = refl
as_number false = refl

pub as_number_limit : (b : Bool) → bool_byte b ≤ 1
as_number_limit true = omega arith
as_number_limit false = omega arith

-- a sum to which at most one number adds
pub sum_none : (f : ℕ → ℕ) (t : ℕ → Bool) (a n : ℕ) → ((k : ℕ) → t k ≡ false) → sum_by (λ k. cond (t k) (f k) 0) (range_with_len a n) ≡ 0
sum_none f t a zero none = refl
sum_none f t a (suc n) none =
    sum_by-cons (λ k. cond (t k) (f k) 0) a (range_with_len (a + 1) n)
    ∙ (λ i. cond (none a i) (f a) 0 + sum_none f t (a + 1) n none i)

pub sum_one : (f : ℕ → ℕ) (t : ℕ → Bool) (a n k : ℕ) → a ≤ k → k < a + n → t k ≡ true → ((m : ℕ) → t m ≡ true → m ≡ k) →
    sum_by (λ k. cond (t k) (f k) 0) (range_with_len a n) ≡ f k
sum_one f t a zero k low high is alone = absurd (omega arith)
sum_one f t a (suc n) k low high is alone =
    sum_by-cons (λ k. cond (t k) (f k) 0) a (range_with_len (a + 1) n)
    ∙ elim (cases_eq a k) [
      | inl here ↦
          let rest : sum_by (λ k. cond (t k) (f k) 0) (range_with_len (a + 1) n) ≡ 0 = later (a + 1) n (omega (arith, here)) in
          let first : cond (t a) (f a) 0 ≡ f k = (λ i. cond (t (here i)) (f (here i)) 0) ∙ cond-true (t k) (f k) 0 is in
          omega (arith, rest, first)
      | inr other ↦
          let rest = sum_one f t (a + 1) n k (omega (arith, low, other)) (omega (arith, high)) is alone in
          let first : cond (t a) (f a) 0 ≡ 0 = cond-false (t a) (f a) 0 (false_from_ne_true (t a) (λ h. other (alone a h))) in
          omega (arith, rest, first)
    ]
  where
    later : (b m : ℕ) → k < b → sum_by (λ k. cond (t k) (f k) 0) (range_with_len b m) ≡ 0
    later b zero above = refl
    later b (suc m) above =
        let rest = later (b + 1) m (omega (arith, above)) in
        let first : cond (t b) (f b) 0 ≡ 0 = cond-false (t b) (f b) 0 (false_from_ne_true (t b) (λ h. let e = alone b h in omega (arith, e, above))) in
        sum_by-cons (λ k. cond (t k) (f k) 0) b (range_with_len (b + 1) m) ∙ omega (arith, rest, first)
