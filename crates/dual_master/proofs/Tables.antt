-- Prices in a table and in a list.
use Rattle.std.proofs.Common.{◌≡◌, ℕ, zero, suc, ◌+◌, ◌-◌, ◌*◌, ◌^◌, ◌<◌, ◌≤◌, ◌≢◌, Bool, true, false, cond, nat_eq, List, [], ◌∷◌, ◌++◌, length, take, get_or, set, ℤ, pos, ◌+ℤ◌, refl, ap, subst, ◌∙◌, arith, get_or-set_same, get_or-set_other}
use Rattle.std.proofs.lemmas.Bool.Decides.{nat_tests}
use Rattle.std.proofs.lemmas.Int.{ints}
use Rattle.std.proofs.lemmas.List.{take_more}
use Rattle.std.specs.List.{AllByRecursion}
use Rattle.orienteering.proofs.Lists.{AllByRecursion-push}
use Rattle.orienteering.specs.Price.{price_of, prices_of, sum_of_prices, RiseFrom, IsFitEntry}
use Rattle.price_bound.specs.Magnitude.{IsWithin}

pub rising-at : (last before : ℕ) (es : List (ℕ × ℤ)) (i : ℕ) (d : ℕ × ℤ) → RiseFrom last before es → i < length es →
    (get_or es i d).0 ≤ last
rising-at last before [] i d r h = absurd (omega arith)
rising-at last before (e ∷ es) zero d r h = r.0.1
rising-at last before (e ∷ es) (suc i) d r h = rising-at last e.0 es i d r.2 (omega arith)

pub rising-later : (last more before : ℕ) (es : List (ℕ × ℤ)) → last ≤ more → RiseFrom last before es → RiseFrom more before es
rising-later last more before [] h r = tt
rising-later last more before (e ∷ es) h r = ((r.0.0, omega (arith, r.0.1)), r.1, rising-later last more e.0 es h r.2)

pub rising-push : (last before : ℕ) (es : List (ℕ × ℤ)) (e : ℕ × ℤ) → before ≤ last → last < e.0 → RiseFrom last before es →
    RiseFrom e.0 before (es ++ e ∷ [])
rising-push last before [] e b h r = ((omega arith, omega arith), omega arith, tt)
rising-push last before (f ∷ fs) e b h r = ((r.0.0, omega (arith, r.0.1)), r.1, rising-push last f.0 fs e r.0.1 h r.2)

-- entries that rise within so many calls are at most so many
pub rising-few : (last before : ℕ) (es : List (ℕ × ℤ)) → before ≤ last → RiseFrom last before es → length es + before ≤ last
rising-few last before [] h r = omega arith
rising-few last before (e ∷ es) h r = let rest = rising-few last e.0 es r.0.1 r.2 in omega (arith, r.1)

same_number : (x y : ℕ) → nat_eq x y ≡ true → x ≡ y
same_number x y h = grind (arith, nat_tests)

other_number : (x y : ℕ) → nat_eq x y ≡ false → y ≢ x
other_number x y h = λ e. grind (arith, nat_tests)

-- a price that is written over those of the entries behind it
pub written : (table : List ℤ) (e : ℕ × ℤ) (es : List (ℕ × ℤ)) (call : ℕ) → e.0 < length table →
    get_or table call (pos 0) ≡ price_of es call → get_or (set table e.0 e.1) call (pos 0) ≡ price_of (e ∷ es) call
written table e es call h k =
    elim (nat_eq e.0 call) as (λ b. nat_eq e.0 call ≡ b → get_or (set table e.0 e.1) call (pos 0) ≡ cond b e.1 (price_of es call)) [
      | true ↦ λ same. subst (λ c. get_or (set table e.0 e.1) c (pos 0) ≡ e.1) (same_number e.0 call same) (rw get_or-set_same refl)
      | false ↦ λ other. let ne : call ≢ e.0 = other_number e.0 call other in rw get_or-set_other k
    ] refl

-- entries of a price that is fit, up to a call
pub record AreListed (forced : ℕ → Bool) (last : ℕ) (es : List (ℕ × ℤ)) : Type 0 where
  pub rising : RiseFrom last 0 es
  pub fit : AllByRecursion (IsFitEntry forced) es

-- a price of 0 is no entry, and another is one more
pub not_listed : (forced : ℕ → Bool) (call : ℕ) (es : List (ℕ × ℤ)) → 1 ≤ call → AreListed forced (call - 1) es →
    AreListed forced (call + 1 - 1) es
not_listed forced call es h l = record { rising = rising-later (call - 1) (call + 1 - 1) 0 es (omega arith) l.rising; fit = l.fit }

pub one_listed : (forced : ℕ → Bool) (call : ℕ) (z : ℤ) (es : List (ℕ × ℤ)) → 1 ≤ call → IsFitEntry forced (call, z) →
    AreListed forced (call - 1) es → AreListed forced (call + 1 - 1) (es ++ (call, z) ∷ [])
one_listed forced call z es h f l =
    let last : call ≡ call + 1 - 1 = omega arith in
    record {
      rising = subst (λ k. RiseFrom k 0 (es ++ (call, z) ∷ [])) last (rising-push (call - 1) 0 es (call, z) (omega arith) (omega arith) l.rising);
      fit = AllByRecursion-push (IsFitEntry forced) es (call, z) l.fit f;
    }

prices_of-push : (entries : List (ℕ × ℤ)) (js : List ℕ) (j : ℕ) →
    prices_of entries (js ++ j ∷ []) ≡ prices_of entries js +ℤ price_of entries j
prices_of-push entries [] j = omega (arith, ints)
prices_of-push entries (i ∷ is) j = let rest = prices_of-push entries is j in omega (arith, ints)

pub prices_of-more : (entries : List (ℕ × ℤ)) (js : List ℕ) (i d : ℕ) → i < length js →
    prices_of entries (take (i + 1) js) ≡ prices_of entries (take i js) +ℤ price_of entries (get_or js i d)
prices_of-more entries js i d h = ap (prices_of entries) (take_more js i d h) ∙ prices_of-push entries (take i js) (get_or js i d)

-- the price of a call keeps the limits of the entries
price_of-fits : (forced : ℕ → Bool) (es : List (ℕ × ℤ)) (call : ℕ) → AllByRecursion (IsFitEntry forced) es →
    IsWithin (10 ^ 17) (price_of es call)
price_of-fits forced [] call a = omega (arith, ints)
price_of-fits forced (e ∷ es) call a =
    elim (nat_eq e.0 call) as (λ b. IsWithin (10 ^ 17) (cond b e.1 (price_of es call))) [
      | true ↦ a.0.size
      | false ↦ price_of-fits forced es call a.1
    ]

pub prices_of-within : (forced : ℕ → Bool) (es : List (ℕ × ℤ)) (js : List ℕ) → AllByRecursion (IsFitEntry forced) es →
    IsWithin (length js * 10 ^ 17) (prices_of es js)
prices_of-within forced es [] a = omega (arith, ints)
prices_of-within forced es (j ∷ js) a =
    let rest = prices_of-within forced es js a in
    let here = price_of-fits forced es j a in
    omega (arith, ints)

pub sum_of_prices-within : (forced : ℕ → Bool) (es : List (ℕ × ℤ)) → AllByRecursion (IsFitEntry forced) es →
    IsWithin (length es * 10 ^ 17) (sum_of_prices es)
sum_of_prices-within forced [] a = omega (arith, ints)
sum_of_prices-within forced (e ∷ es) a =
    let rest = sum_of_prices-within forced es a.1 in
    let here = a.0.size in
    omega (arith, ints)
