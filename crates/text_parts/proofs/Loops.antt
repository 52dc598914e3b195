-- The loops over a list and over keywords.
use Rattle.std.proofs.Common.{◌≡◌, ℕ, suc, ◌+◌, ◌-◌, ◌<◌, ◌≤◌, min, List, [], ◌∷◌, ◌++◌, length, drop, get_or, Result, Ok, Err, refl, sym, ap, ◌∙◌, append_assoc, arith}
use Rattle.std.proofs.lemmas.List.{append-nil, drop_more, drop_all}
use Rattle.text_parts.specs.declared.stop.ReadFail.{ReadFail}
use Rattle.text_parts.specs.declared.stop.ReadFail.TheVariants.{Stopped, Memory}
use Rattle.text_parts.specs.Gives.{Fails}
use Rattle.text_parts.specs.Reading.{Reading, ◌>>=◌, word_at, list_at, or_else, one_of}

-- ---- a list

-- what was read before, and what is still read
abbrev pub with_front : {A : Type 0} → List A → Result (List A × List ℕ) ℕ → Result (List A × List ℕ) ℕ
with_front front read = read >>= λ x. Ok (front ++ x.0, x.1)

regroup : {A : Type 0} (front : List A) (x : A) (read : Result (List A × List ℕ) ℕ) → with_front front (read >>= λ y. Ok (x ∷ y.0, y.1)) ≡ with_front (front ++ x ∷ []) read
regroup {A = A} front x (Ok y) = ap (λ (xs : List A). Ok (xs, y.1)) (simp append_assoc)
regroup front x (Err left) = refl

pub list_goes_on : {A : Type 0} (item : Reading A) (front : List A) (count i : ℕ) (bytes : List ℕ) (x : A) (after : List ℕ) (total : Result (List A × List ℕ) ℕ) → i < count → item bytes ≡ Ok (x, after)
    → with_front front (list_at (count - i) item bytes) ≡ total → with_front (front ++ x ∷ []) (list_at (count - (i + 1)) item after) ≡ total
unfolding list_at
list_goes_on item front count i bytes x after total lt h so_far =
    let k : count - i ≡ suc (count - (i + 1)) = omega arith in
    let one : with_front front (list_at (count - i) item bytes) ≡ with_front (front ++ x ∷ []) (list_at (count - (i + 1)) item after) = rw (k, h) (regroup front x (list_at (count - (i + 1)) item after)) in
    sym one ∙ so_far

pub list_ends : {A : Type 0} (item : Reading A) (fail : ReadFail) (front : List A) (count i : ℕ) (bytes : List ℕ) (total : Result (List A × List ℕ) ℕ) → i < count → Fails fail (item bytes)
    → with_front front (list_at (count - i) item bytes) ≡ total → Fails fail total
unfolding list_at
list_ends item Memory front count i bytes total lt h so_far = tt
list_ends item (Stopped stop) front count i bytes total lt h so_far =
    let k : count - i ≡ suc (count - (i + 1)) = omega arith in
    let one : with_front front (list_at (count - i) item bytes) ≡ Err stop.left = rw (k, h) refl in
    sym so_far ∙ one

pub list_is_done : {A : Type 0} (item : Reading A) (front : List A) (count i : ℕ) (bytes : List ℕ) (total : Result (List A × List ℕ) ℕ) → count ≤ i → with_front front (list_at (count - i) item bytes) ≡ total → total ≡ Ok (front, bytes)
unfolding list_at
list_is_done {A = A} item front count i bytes total le so_far =
    let k : count - i ≡ 0 = omega arith in
    let one : with_front front (list_at (count - i) item bytes) ≡ Ok (front, bytes) = rw k (ap (λ (xs : List A). Ok (xs, bytes)) (append-nil front)) in
    sym so_far ∙ one

-- ---- keywords

-- the stop that is farthest on so far
abbrev pub with_left : {K : Type 0} → ℕ → Result (K × List ℕ) ℕ → Result (K × List ℕ) ℕ
with_left left (Ok x) = Ok x
with_left left (Err least) = Err (min left least)

module _ {K : Type 0} (word : K → List ℕ) (bytes : List ℕ) where
  least_bounded : (k : K) (r : Result (Unit {0} × List ℕ) ℕ) (others : Result (K × List ℕ) ℕ) → with_left (length bytes) others ≡ others → with_left (length bytes) (or_else k r others) ≡ or_else k r others
  least_bounded k (Ok x) others h = refl
  least_bounded k (Err left) (Ok x) h = refl
  least_bounded k (Err left) (Err least) h =
      let le : min (length bytes) least ≡ least = cc in
      ap (λ (n : ℕ). Err n) (omega arith)

  pub keyword_first : (ks : List K) → with_left (length bytes) (one_of word ks bytes) ≡ one_of word ks bytes
  unfolding one_of
  keyword_first [] = ap (λ (n : ℕ). Err n) (omega arith)
  keyword_first (k ∷ ks) = least_bounded k (word_at (word k) bytes) (one_of word ks bytes) (keyword_first ks)

  one_less : (left stop : ℕ) (k : K) (others : Result (K × List ℕ) ℕ) → with_left left (or_else k (Err stop) others) ≡ with_left (min left stop) others
  one_less left stop k (Ok x) = refl
  one_less left stop k (Err least) = ap (λ (n : ℕ). Err n) (omega arith)

  at_place : (ks : List K) (i : ℕ) (k : K) → i < length ks → k ≡ get_or ks i k → one_of word (drop i ks) bytes ≡ one_of word (k ∷ drop (i + 1) ks) bytes
  at_place ks i k lt is = ap (λ (xs : List K). one_of word xs bytes) (drop_more ks i k lt ∙ ap (λ (x : K). x ∷ drop (i + 1) ks) (sym is))

  pub keyword_goes_on : (ks : List K) (i : ℕ) (k : K) (left stop : ℕ) (total : Result (K × List ℕ) ℕ) → i < length ks → k ≡ get_or ks i k → word_at (word k) bytes ≡ Err stop
      → with_left left (one_of word (drop i ks) bytes) ≡ total → with_left (min left stop) (one_of word (drop (i + 1) ks) bytes) ≡ total
  unfolding one_of
  keyword_goes_on ks i k left stop total lt is h so_far =
      let one : with_left left (one_of word (k ∷ drop (i + 1) ks) bytes) ≡ with_left (min left stop) (one_of word (drop (i + 1) ks) bytes) = rw h (one_less left stop k (one_of word (drop (i + 1) ks) bytes)) in
      sym (ap (with_left left) (at_place ks i k lt is) ∙ one) ∙ so_far

  pub keyword_stands : (ks : List K) (i : ℕ) (k : K) (left : ℕ) (rest : List ℕ) (total : Result (K × List ℕ) ℕ) → i < length ks → k ≡ get_or ks i k → word_at (word k) bytes ≡ Ok (tt, rest)
      → with_left left (one_of word (drop i ks) bytes) ≡ total → total ≡ Ok (k, rest)
  unfolding one_of
  keyword_stands ks i k left rest total lt is h so_far =
      let one : with_left left (one_of word (k ∷ drop (i + 1) ks) bytes) ≡ Ok (k, rest) = rw h refl in
      sym so_far ∙ ap (with_left left) (at_place ks i k lt is) ∙ one

  pub keyword_none : (ks : List K) (i : ℕ) (left : ℕ) (total : Result (K × List ℕ) ℕ) → length ks ≤ i → left ≤ length bytes
      → with_left left (one_of word (drop i ks) bytes) ≡ total → total ≡ Err left
  unfolding one_of
  keyword_none ks i left total le bound so_far =
      let one : with_left left (one_of word (drop i ks) bytes) ≡ Err left = rw (drop_all i ks le) (ap (λ (n : ℕ). Err n) (omega arith)) in
      sym so_far ∙ one
