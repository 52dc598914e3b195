-- The fields of a line that are kept, and where they stand.
use Rattle.std.proofs.Common.{◌≡◌, ℕ, suc, ◌+◌, ◌-◌, ◌<◌, ◌≤◌, cond, leb, ltb, inl, inr, true, false, List, [], ◌∷◌, ◌++◌, length, get_or, map, set, take, drop, refl, sym, ap, ap₂, ◌∙◌, arith, append_assoc, append-nil, length-append, length-drop}
use Rattle.std.proofs.Math.Seq.{drop-append-add}
use Rattle.std.proofs.lemmas.Bool.{cases_lt, le-leb, lt-leb, lt-ltb}
use Rattle.std.proofs.lemmas.List.{take-append-le, drop-append-le, drop-drop, length-map, length-take-le, map-set, take_more_set, take_all, get_or_append_left, get_or-append-add, get_or-take, get_or-drop, take-append-drop}
use Rattle.std.specs.Borrow.{Bor}
use Rattle.instance_files.specs.Lines.{is_nonempty}
use Rattle.instance_files.specs.Rows.{field_at}
use Rattle.instance_files.specs.Kept.{kept, with_field}

-- the first five and the last two
pub ends : List (List ℕ) → List (List ℕ)
ends fields = take 5 fields ++ drop (length fields - 2) fields

pub kept-few : (fields : List (List ℕ)) → length fields ≤ 7 → kept fields ≡ fields
kept-few fields few = rw (le-leb (length fields) 7 few) refl

many-kept : (fields : List (List ℕ)) → 7 < length fields → kept fields ≡ ends fields
unfolding ends
many-kept fields many = rw (lt-leb (length fields) 7 many) refl

length-front : (fields : List (List ℕ)) → 7 ≤ length fields → length (take 5 fields) ≡ 5
length-front fields many = length-take-le 5 fields (omega arith)

length-ends : (fields : List (List ℕ)) → 7 ≤ length fields → length (ends fields) ≡ 7
unfolding ends
length-ends fields many =
    omega (arith, length-append (take 5 fields) (drop (length fields - 2) fields), length-front fields many, length-drop (length fields - 2) fields)

front-ends : (fields : List (List ℕ)) (k : ℕ) → 7 ≤ length fields → k < 5 → field_at (ends fields) k ≡ field_at fields k
unfolding ends
front-ends fields k many lt =
    get_or_append_left (take 5 fields) (drop (length fields - 2) fields) [] k (omega (arith, length-front fields many)) ∙ get_or-take 5 fields k [] lt

back-ends : (fields : List (List ℕ)) (k : ℕ) → 7 ≤ length fields → field_at (ends fields) (5 + k) ≡ field_at fields (length fields - 2 + k)
unfolding ends
back-ends fields k many =
    ap (λ (n : ℕ). field_at (take 5 fields ++ drop (length fields - 2) fields) (n + k)) (sym (length-front fields many))
    ∙ get_or-append-add (take 5 fields) (drop (length fields - 2) fields) k []
    ∙ get_or-drop (length fields - 2) fields k []

-- seven fields are the ends of these many
pub record AreEnds (ks fs : List (List ℕ)) : Type 0 where
  pub seven : length ks ≡ 7
  pub many : 7 < length fs
  pub front : (k : ℕ) → k < 5 → field_at ks k ≡ field_at fs k
  pub before_last : field_at ks (length ks - 2) ≡ field_at fs (length fs - 2)
  pub last : field_at ks (length ks - 1) ≡ field_at fs (length fs - 1)

pub kept-many : (fields : List (List ℕ)) → 7 < length fields → AreEnds (kept fields) fields
kept-many fields many = rw (many-kept fields many) (ends-of fields many)
  where
    ends-of : (fields : List (List ℕ)) → 7 < length fields → AreEnds (ends fields) fields
    ends-of fields many =
        let seven = length-ends fields (omega arith) in
        let fifth : length (ends fields) - 2 ≡ 5 + 0 = omega (arith, seven) in
        let sixth : length (ends fields) - 1 ≡ 5 + 1 = omega (arith, seven) in
        record {
          seven = seven;
          many = many;
          front = λ k lt. front-ends fields k (omega arith) lt;
          before_last = ap (field_at (ends fields)) fifth ∙ back-ends fields 0 (omega arith) ∙ ap (field_at fields) (omega arith);
          last = ap (field_at (ends fields)) sixth ∙ back-ends fields 1 (omega arith) ∙ ap (field_at fields) (omega arith);
        }

-- ---- one field more

-- what is kept once all these fields are read too
abbrev pub kept_with : List (List ℕ) → List (List ℕ) → List (List ℕ)
kept_with fields [] = fields
kept_with fields (field ∷ more) = kept_with (with_field fields field) more

with-few : (fields : List (List ℕ)) (field : List ℕ) → length fields < 7 → with_field fields field ≡ fields ++ field ∷ []
with-few fields field few = rw (lt-ltb (length fields) 7 few) refl

with-many : (fields : List (List ℕ)) (field : List ℕ) → 7 ≤ length fields → with_field fields field ≡ take 5 fields ++ drop 6 fields ++ field ∷ []
with-many fields field many = rw (lt-leb (suc (length fields)) 7 (omega arith)) refl

-- the first five of more fields, and the last two
ends-more : (fields : List (List ℕ)) (field : List ℕ) → 7 ≤ length fields → ends (fields ++ field ∷ []) ≡ take 5 fields ++ drop (length fields - 1) fields ++ field ∷ []
unfolding ends
ends-more fields field many =
    let place : length (fields ++ field ∷ []) - 2 ≡ length fields - 1 = omega (arith, length-append fields (field ∷ [])) in
    ap₂ (λ (x y : List (List ℕ)). x ++ y) (take-append-le 5 fields (field ∷ []) (omega arith))
    (ap (λ (n : ℕ). drop n (fields ++ field ∷ [])) place ∙ drop-append-le (length fields - 1) fields (field ∷ []) (omega arith))
    ∙ sym (append_assoc (take 5 fields) (drop (length fields - 1) fields) (field ∷ []))

-- the last but one of the ends
drop-ends : (fields : List (List ℕ)) → 7 ≤ length fields → drop 6 (ends fields) ≡ drop (length fields - 1) fields
unfolding ends
drop-ends fields many =
    ap (λ (n : ℕ). drop (n + 1) (take 5 fields ++ drop (length fields - 2) fields)) (sym (length-front fields many))
    ∙ drop-append-add (take 5 fields) (drop (length fields - 2) fields) 1
    ∙ drop-drop 1 (length fields - 2) fields
    ∙ ap (λ (n : ℕ). drop n fields) (omega arith)

take-ends : (fields : List (List ℕ)) → 7 ≤ length fields → take 5 (ends fields) ≡ take 5 fields
unfolding ends
take-ends fields many =
    take-append-le 5 (take 5 fields) (drop (length fields - 2) fields) (omega (arith, length-front fields many))
    ∙ take_all 5 (take 5 fields) (omega (arith, length-front fields many))

with-ends : (fields : List (List ℕ)) (field : List ℕ) → 7 ≤ length fields → with_field (ends fields) field ≡ ends (fields ++ field ∷ [])
with-ends fields field many =
    with-many (ends fields) field (omega (arith, length-ends fields many))
    ∙ ap₂ (λ (x y : List (List ℕ)). x ++ y ++ field ∷ []) (take-ends fields many) (drop-ends fields many)
    ∙ sym (ends-more fields field many)

kept-ends : (fields : List (List ℕ)) → 7 ≤ length fields → kept fields ≡ ends fields
unfolding ends
kept-ends fields many =
    elim (cases_lt 7 (length fields)) [
      | inl more ↦ many-kept fields more
      | inr seven ↦
          let place : length fields - 2 ≡ 5 = omega arith in
          kept-few fields seven ∙ sym (ap (λ (n : ℕ). take 5 fields ++ drop n fields) place ∙ take-append-drop 5 fields)
    ]

with-kept : (fields : List (List ℕ)) (field : List ℕ) → with_field (kept fields) field ≡ kept (fields ++ field ∷ [])
with-kept fields field =
    let more : length (fields ++ field ∷ []) ≡ length fields + 1 = length-append fields (field ∷ []) in
    elim (cases_lt (length fields) 7) [
      | inl few ↦
          ap (λ (ks : List (List ℕ)). with_field ks field) (kept-few fields (omega arith)) ∙ with-few fields field few
          ∙ sym (kept-few (fields ++ field ∷ []) (omega arith))
      | inr many ↦
          ap (λ (ks : List (List ℕ)). with_field ks field) (kept-ends fields many) ∙ with-ends fields field many
          ∙ sym (kept-ends (fields ++ field ∷ []) (omega arith))
    ]

pub kept-with : (fields more : List (List ℕ)) → kept_with (kept fields) more ≡ kept (fields ++ more)
kept-with fields [] = sym (ap kept (append-nil fields))
kept-with fields (field ∷ more) =
    ap (λ (ks : List (List ℕ)). kept_with ks more) (with-kept fields field) ∙ kept-with (fields ++ field ∷ []) more
    ∙ ap kept (append_assoc fields (field ∷ []) more)

-- a line that isn't blank keeps a field
pub none-kept : (fields : List (List ℕ)) → length (kept fields) ≡ 0 → fields ≡ []
none-kept [] h = refl
none-kept (field ∷ fields) h =
    elim (cases_lt 7 (length (field ∷ fields))) [
      | inl many ↦ absurd (omega (arith, (kept-many (field ∷ fields) many).seven))
      | inr few ↦ absurd (omega (arith, ap length (kept-few (field ∷ fields) few)))
    ]

pub some-kept : (fields : List (List ℕ)) → 0 < length (kept fields) → is_nonempty fields ≡ true
some-kept [] h = absurd (omega arith)
some-kept (field ∷ fields) h = refl

-- ---- the list that keeps them

-- a field that is put behind the others
pub field-put : (list : List (Bor (List ℕ))) (n : ℕ) (field : Bor (List ℕ)) (fields : List (List ℕ)) → length list ≡ 7 → n < 7 →
    take n (map (λ f. f.now) list) ≡ fields → take (n + 1) (map (λ f. f.now) (set list n field)) ≡ with_field fields field.now
field-put list n field fields seven few are =
    let long : length (map (λ f. f.now) list) ≡ 7 = length-map list (λ f. f.now) ∙ seven in
    let count : length (take n (map (λ f. f.now) list)) ≡ n = length-take-le n (map (λ f. f.now) list) (omega arith) in
    ap (take (n + 1)) (map-set (λ f. f.now) list n field)
    ∙ take_more_set (map (λ f. f.now) list) n field.now (omega arith)
    ∙ ap (λ (x : List (List ℕ)). x ++ field.now ∷ []) are
    ∙ sym (with-few fields field.now (omega (arith, ap length are)))
