-- What holds of sets of numbers.
use Rattle.std.specs.Prelude.{◌≡◌, ℕ, ◌+◌, ◌<◌, ◌≤◌, Bool, true, false, ◌||◌, nat_eq, nat_lt, if◌then◌else◌, List, [], ◌∷◌, refl}
use Rattle.std.proofs.Common.{sym, ap, ◌∙◌, arith, ⊎_elim}
use Rattle.std.proofs.lemmas.Bool.{or_cases, or_left, or_right, and_parts, and_from, eqb-true, eq-eqb, ltb-true, ltb-false, eqb-false, ne_eqb, cond_both, cond-true, cond-false, lt-ltb, le-ltb, false≢true}
use Rattle.bit_sets.specs.NumberSet.{IsSmall, RisesFrom, member, is_subset, inserted, united}

pub rises_lower : (low lower : ℕ) (xs : List ℕ) → lower ≤ low → RisesFrom low xs → RisesFrom lower xs
rises_lower low lower [] le h = tt
rises_lower low lower (x ∷ xs) le h = (omega (arith, h.0), h.1)

pub member_above : (low : ℕ) (xs : List ℕ) (z : ℕ) → RisesFrom low xs → member z xs ≡ true → low ≤ z
member_above low [] z h e = absurd (false≢true e)
member_above low (x ∷ xs) z h e =
    ⊎_elim
    (λ (here : nat_eq z x ≡ true). omega (arith, h.0, eqb-true z x here))
    (λ later. omega (arith, h.0, member_above (x + 1) xs z h.1 later))
    (or_cases _ _ e)

pub subset_member : (xs ys : List ℕ) (z : ℕ) → is_subset xs ys ≡ true → member z xs ≡ true → member z ys ≡ true
subset_member [] ys z s e = absurd (false≢true e)
subset_member (x ∷ xs) ys z s e =
    let parts = and_parts _ _ s in
    ⊎_elim
    (λ here. ap (λ n. member n ys) (eqb-true z x here) ∙ parts.0)
    (λ later. subset_member xs ys z parts.1 later)
    (or_cases _ _ e)

pub subset_from : (xs ys : List ℕ) → ((z : ℕ) → member z xs ≡ true → member z ys ≡ true) → is_subset xs ys ≡ true
subset_from [] ys f = refl
subset_from (x ∷ xs) ys f =
    and_from _ _ (f x (or_left _ _ (eq-eqb x x refl))) (subset_from xs ys (λ z e. f z (or_right _ _ e)))

pub subset_reflexive : (xs : List ℕ) → is_subset xs xs ≡ true
subset_reflexive xs = subset_from xs xs (λ z e. e)

pub subset_transitive : (xs ys zs : List ℕ) → is_subset xs ys ≡ true → is_subset ys zs ≡ true → is_subset xs zs ≡ true
subset_transitive xs ys zs p q = subset_from xs zs (λ z e. subset_member ys zs z q (subset_member xs ys z p e))

-- what is in a list but isn't its first is in its rest
in_rest : (y : ℕ) (ys : List ℕ) (z : ℕ) → y < z → member z (y ∷ ys) ≡ true → member z ys ≡ true
in_rest y ys z above e = ⊎_elim (λ (here : nat_eq z y ≡ true). absurd (omega (arith, above, eqb-true z y here))) (λ later. later) (or_cases _ _ e)

pub same_members : (low : ℕ) (xs ys : List ℕ) → RisesFrom low xs → RisesFrom low ys → ((z : ℕ) → member z xs ≡ true → member z ys ≡ true) → ((z : ℕ) → member z ys ≡ true → member z xs ≡ true) → xs ≡ ys
same_members low [] [] h k f g = refl
same_members low [] (y ∷ ys) h k f g = absurd (false≢true (g y (or_left _ _ (eq-eqb y y refl))))
same_members low (x ∷ xs) [] h k f g = absurd (false≢true (f x (or_left _ _ (eq-eqb x x refl))))
same_members low (x ∷ xs) (y ∷ ys) h k f g =
    let x_high = member_above y (y ∷ ys) x (omega arith, k.1) (f x (or_left _ _ (eq-eqb x x refl))) in
    let y_high = member_above x (x ∷ xs) y (omega arith, h.1) (g y (or_left _ _ (eq-eqb y y refl))) in
    let same : x ≡ y = omega arith in
    let rest = same_members (x + 1) xs ys h.1 (rw same k.1)
    (λ z e. in_rest y ys z (omega (arith, member_above (x + 1) xs z h.1 e)) (f z (or_right _ _ e)))
    (λ z e. in_rest x xs z (omega (arith, member_above (y + 1) ys z k.1 e)) (g z (or_right _ _ e))) in
    ap (λ n. n ∷ xs) same ∙ ap (λ l. y ∷ l) rest

pub subset_antisymmetric : (low : ℕ) (xs ys : List ℕ) → RisesFrom low xs → RisesFrom low ys → is_subset xs ys ≡ true → is_subset ys xs ≡ true → xs ≡ ys
subset_antisymmetric low xs ys h k p q = same_members low xs ys h k (λ z. subset_member xs ys z p) (λ z. subset_member ys xs z q)

or_again : (a b : Bool) → (a || b) ≡ (a || (a || b))
or_again true b = refl
or_again false b = refl

or_swapped : (a b c : Bool) → (a || (b || c)) ≡ (b || (a || c))
or_swapped true true c = refl
or_swapped true false c = refl
or_swapped false b c = refl

-- what is in the set with one more number
pub member-inserted : (x : ℕ) (xs : List ℕ) (z : ℕ) → member z (inserted x xs) ≡ (nat_eq z x || member z xs)
member-inserted x [] z = refl
member-inserted x (y ∷ ys) z =
    cond_both (nat_lt x y) (x ∷ y ∷ ys) (if nat_eq x y then y ∷ ys else y ∷ inserted x ys) (λ l. member z l ≡ (nat_eq z x || member z (y ∷ ys)))
    (λ _. refl)
    (λ _. cond_both (nat_eq x y) (y ∷ ys) (y ∷ inserted x ys) (λ l. member z l ≡ (nat_eq z x || member z (y ∷ ys)))
    (λ same. or_again (nat_eq z y) (member z ys) ∙ ap (λ n. nat_eq z n || (nat_eq z y || member z ys)) (sym (eqb-true x y same)))
    (λ _. ap (λ b. nat_eq z y || b) (member-inserted x ys z) ∙ or_swapped (nat_eq z y) (nat_eq z x) (member z ys)))

pub rises-inserted : (low x : ℕ) (xs : List ℕ) → low ≤ x → RisesFrom low xs → RisesFrom low (inserted x xs)
rises-inserted low x [] le h = (le, tt)
rises-inserted low x (y ∷ ys) le h =
    cond_both (nat_lt x y) (x ∷ y ∷ ys) (if nat_eq x y then y ∷ ys else y ∷ inserted x ys) (RisesFrom low)
    (λ less. (le, (omega (arith, ltb-true x y less), h.1)))
    (λ not_less. cond_both (nat_eq x y) (y ∷ ys) (y ∷ inserted x ys) (RisesFrom low)
    (λ _. h)
    (λ differ. (h.0, rises-inserted (y + 1) x ys (omega (arith, ltb-false x y not_less, eqb-false x y differ)) h.1)))

-- a number below all others goes first
pub inserted_first : (x : ℕ) (xs : List ℕ) → RisesFrom (x + 1) xs → inserted x xs ≡ x ∷ xs
inserted_first x [] h = refl
inserted_first x (y ∷ ys) h = cond-true _ _ _ (lt-ltb x y (omega (arith, h.0)))

-- a number above the first goes behind it
pub inserted_later : (x y : ℕ) (ys : List ℕ) → y < x → inserted x (y ∷ ys) ≡ y ∷ inserted x ys
inserted_later x y ys above =
    cond-false _ _ _ (le-ltb x y (omega arith)) ∙ cond-false _ _ _ (ne_eqb x y (λ e. omega (arith, e)))

pub inserted_again : (x : ℕ) (xs : List ℕ) → inserted x (x ∷ xs) ≡ x ∷ xs
inserted_again x xs = cond-false _ _ _ (le-ltb x x (omega arith)) ∙ cond-true _ _ _ (eq-eqb x x refl)

-- a small number added to small ones
pub small-inserted : (x : ℕ) (xs : List ℕ) → x < 320 → IsSmall xs → IsSmall (inserted x xs)
small-inserted x [] low h = (low, tt)
small-inserted x (y ∷ ys) low h =
    cond_both (nat_lt x y) (x ∷ y ∷ ys) (if nat_eq x y then y ∷ ys else y ∷ inserted x ys) IsSmall
    (λ _. (low, h))
    (λ _. cond_both (nat_eq x y) (y ∷ ys) (y ∷ inserted x ys) IsSmall (λ _. h) (λ _. (h.0, small-inserted x ys low h.1)))

pub small_member : (xs : List ℕ) (z : ℕ) → IsSmall xs → member z xs ≡ true → z < 320
small_member [] z h e = absurd (false≢true e)
small_member (x ∷ xs) z h e =
    ⊎_elim
    (λ (here : nat_eq z x ≡ true). omega (arith, h.0, eqb-true z x here))
    (λ later. small_member xs z h.1 later)
    (or_cases _ _ e)

pub small_from : (xs : List ℕ) → ((z : ℕ) → member z xs ≡ true → z < 320) → IsSmall xs
small_from [] f = tt
small_from (x ∷ xs) f = (f x (or_left _ _ (eq-eqb x x refl)), small_from xs (λ z e. f z (or_right _ _ e)))

pub rises-united : (low : ℕ) (xs ys : List ℕ) → RisesFrom low xs → RisesFrom low ys → RisesFrom low (united xs ys)
rises-united low [] ys h k = k
rises-united low (x ∷ xs) ys h k = rises-inserted low x (united xs ys) h.0 (rises-united low xs ys (rises_lower (x + 1) low xs (omega (arith, h.0)) h.1) k)

or_grouped : (a b c : Bool) → (a || (b || c)) ≡ ((a || b) || c)
or_grouped true b c = refl
or_grouped false b c = refl

-- what is in the numbers of both
pub member-united : (xs ys : List ℕ) (z : ℕ) → member z (united xs ys) ≡ (member z xs || member z ys)
member-united [] ys z = refl
member-united (x ∷ xs) ys z =
    member-inserted x (united xs ys) z ∙ ap (λ b. nat_eq z x || b) (member-united xs ys z) ∙ or_grouped (nat_eq z x) (member z xs) (member z ys)
