-- Lists that one more element is offered to: it is left out where one in the list covers it, and drops those that it covers.
use Rattle.std.proofs.Common.{◌≡◌, ℕ, zero, suc, ◌+◌, ◌<◌, Bool, true, false, not, ◌||◌, cond, List, [], ◌∷◌, ◌++◌, length, map, Some, refl, sym, ap, ◌∙◌, subst, arith, append_assoc}
use Rattle.std.specs.List.{All, AllPairs, Contains, filter, list_any, range_with_len, slice_get}
use Rattle.std.proofs.lemmas.Bool.{or_parts, not-true, not_from_false, cond-true, cond_both}
use Rattle.std.proofs.lemmas.List.{get_or-map, length-map, map-id}
use Rattle.std.proofs.lemmas.List.FromFn.{map-range_with_len_more}
use Rattle.std.proofs.lemmas.List.Elements.{All-nil, All-cons, All-head, All-tail, All-filter, All-push, All-weaker, filter_passes, filter-append}
use Rattle.std.proofs.lemmas.List.Folds.{list_any-append}
use Rattle.std.proofs.lemmas.List.Kept.{AllPairs-filter}
use Rattle.std.proofs.lemmas.List.Quantifiers.{all_pairs_push}
use Rattle.label_engine.specs.Layer.{Apart}
use Rattle.label_engine.specs.Offer.{offered}

pub same_bools : (a b : Bool) → (a ≡ true → b ≡ true) → (b ≡ true → a ≡ true) → a ≡ b
same_bools true b f g = sym (f refl)
same_bools false true f g = g refl
same_bools false false f g = refl

pub none_passes : {X : Type 0} (p : X → Bool) (xs : List X) → list_any p xs ≡ false → All (λ x. p x ≡ false) xs
none_passes p [] e = All-nil (λ x. p x ≡ false)
none_passes p (x ∷ xs) e = let q = or_parts _ _ e in All-cons (λ y. p y ≡ false) x xs q.0 (none_passes p xs q.1)

pub filter_all : {X : Type 0} (p : X → Bool) (xs : List X) → All (λ x. p x ≡ true) xs → filter p xs ≡ xs
filter_all p [] h = refl
filter_all p (x ∷ xs) h =
    cond-true _ _ _ (All-head (λ y. p y ≡ true) x xs h) ∙
    ap (λ ys. x ∷ ys) (filter_all p xs (All-tail (λ y. p y ≡ true) x xs h))

-- tests that agree on a list
pub list_any_agrees : {X : Type 0} (p q : X → Bool) (xs : List X) → All (λ x. p x ≡ q x) xs → list_any p xs ≡ list_any q xs
list_any_agrees p q [] h = refl
list_any_agrees p q (x ∷ xs) h =
    ap (λ b. b || list_any p xs) (All-head (λ y. p y ≡ q y) x xs h) ∙
    ap (λ b. q x || b) (list_any_agrees p q xs (All-tail (λ y. p y ≡ q y) x xs h))

pub filter_agrees : {X : Type 0} (p q : X → Bool) (xs : List X) → All (λ x. p x ≡ q x) xs → filter p xs ≡ filter q xs
filter_agrees p q [] h = refl
filter_agrees p q (x ∷ xs) h =
    ap (λ b. cond b (x ∷ filter p xs) (filter p xs)) (All-head (λ y. p y ≡ q y) x xs h) ∙
    ap (λ ys. cond (q x) (x ∷ ys) ys) (filter_agrees p q xs (All-tail (λ y. p y ≡ q y) x xs h))

pub Contains-cons : {X : Type 0} (y : X) (xs : List X) (x : X) → Contains xs x → Contains (y ∷ xs) x
Contains-cons y xs x (k, within, is) = (suc k, omega arith, is)

pub Contains-filter : {X : Type 0} (p : X → Bool) (xs : List X) (x : X) → p x ≡ true → Contains xs x → Contains (filter p xs) x
Contains-filter p [] x h (k, within, is) = absurd (omega arith)
Contains-filter p (y ∷ ys) x h (zero, within, is) =
    let passes : p y ≡ true = ap p is ∙ h in
    subst (λ zs. Contains zs x) (sym (cond-true (p y) (y ∷ filter p ys) (filter p ys) passes)) (zero, omega arith, is)
Contains-filter p (y ∷ ys) x h (suc k, within, is) =
    let rest = Contains-filter p ys x h (k, omega arith, is) in
    cond_both (p y) (y ∷ filter p ys) (filter p ys) (λ zs. Contains zs x) (λ _. Contains-cons y (filter p ys) x rest) (λ _. rest)

pub Contains-map : {X Y : Type 0} (f : X → Y) (xs : List X) (x : X) → Contains xs x → Contains (map f xs) (f x)
Contains-map f xs x c = (c.0, (let e = length-map xs f in let below : c.0 < length xs = c.1 in omega arith), get_or-map f xs c.0 x (f x) c.1 ∙ ap f c.2)

pub slice_get-append_left : {X : Type 0} (xs ys : List X) (i : ℕ) (x : X) → slice_get xs i ≡ Some x → slice_get (xs ++ ys) i ≡ Some x
slice_get-append_left [] ys i x e = cc
slice_get-append_left (z ∷ xs) ys zero x e = e
slice_get-append_left (z ∷ xs) ys (suc i) x e = slice_get-append_left xs ys i x e

-- one number more
pub range_with_len-more : (a n j : ℕ) → a + n ≡ j → range_with_len a (n + 1) ≡ range_with_len a n ++ j ∷ []
range_with_len-more a n j e =
    sym (map-id (range_with_len a (n + 1))) ∙ map-range_with_len_more (λ x. x) a n j e ∙ ap (λ l. l ++ j ∷ []) (map-id (range_with_len a n))

cond-append : {X : Type 0} (b : Bool) (xs ys zs : List X) → cond b (xs ++ ys) (xs ++ zs) ≡ xs ++ cond b ys zs
cond-append true xs ys zs = refl
cond-append false xs ys zs = refl

module _ {K : Type 0} (covers : K → K → Bool) where
  -- the two ways in which an element is offered
  pub offered-cases : (P : List K → Type 0) (kept : List K) (c : K) → (list_any (λ k. covers k c) kept ≡ true → P kept) → (list_any (λ k. covers k c) kept ≡ false → P (filter (λ k. not (covers c k)) kept ++ c ∷ [])) → P (offered covers kept c)
  offered-cases P kept c covered added = cond_both _ _ _ P covered added

  -- what holds of all that is kept and of the element offered
  pub All-offered : (P : K → Type 0) (kept : List K) (c : K) → All P kept → P c → All P (offered covers kept c)
  All-offered P kept c h p = offered-cases (All P) kept c (λ _. h) (λ _. All-push P (filter (λ k. not (covers c k)) kept) c (All-filter (λ k. not (covers c k)) P kept h) p)

  -- what is kept stays apart
  pub apart-offered : (kept : List K) (c : K) → AllPairs (Apart covers) kept → AllPairs (Apart covers) (offered covers kept c)
  apart-offered kept c apart =
      offered-cases (AllPairs (Apart covers)) kept c (λ _. apart)
      (λ none.
      let left : K → Bool = λ k. not (covers c k) in
      let uncovered = All-filter left (λ k. covers k c ≡ false) kept (none_passes (λ k. covers k c) kept none) in
      let spared = filter_passes left kept in
      all_pairs_push (Apart covers) (filter left kept) c (AllPairs-filter (Apart covers) left kept apart)
      (λ k d within. record { first = uncovered k d within; second = not-true _ (spared k d within) }))

  -- elements in front that the new one doesn't cover are dropped by none and are asked only whether one covers
  pub offered-behind : (xs ys : List K) (c : K) → All (λ k. covers c k ≡ false) xs → offered covers (xs ++ ys) c ≡ xs ++ cond (list_any (λ k. covers k c) xs || list_any (λ k. covers k c) ys) ys (filter (λ k. not (covers c k)) ys ++ c ∷ [])
  offered-behind xs ys c spared =
      let left : K → Bool = λ k. not (covers c k) in
      let kept : filter left (xs ++ ys) ≡ xs ++ filter left ys =
      filter-append left xs ys ∙ ap (λ l. l ++ filter left ys) (filter_all left xs (All-weaker (λ k. covers c k ≡ false) (λ k. left k ≡ true) (λ k e. not_from_false _ e) xs spared)) in
      ap (λ b. cond b (xs ++ ys) (filter left (xs ++ ys) ++ c ∷ [])) (list_any-append (λ k. covers k c) xs ys) ∙
      ap (cond (list_any (λ k. covers k c) xs || list_any (λ k. covers k c) ys) (xs ++ ys)) (ap (λ l. l ++ c ∷ []) kept ∙ append_assoc xs (filter left ys) (c ∷ [])) ∙
      cond-append (list_any (λ k. covers k c) xs || list_any (λ k. covers k c) ys) xs ys (filter left ys ++ c ∷ [])
