-- How a line's blanks, its fields and its end stand one behind the other.
use Rattle.std.proofs.Common.{◌≡◌, ℕ, zero, suc, ◌+◌, ◌-◌, ◌<◌, ◌≤◌, ◌||◌, ◌&&◌, eqb, List, [], ◌∷◌, length, take, drop, Option, Some, None, Bool, true, false, cond, ◌⊎◌, inl, inr, refl, sym, ap, ◌∙◌, ap₂, arith}
use Rattle.std.specs.List.{slice_split, onto_first, filter, list_all, slice_range}
use Rattle.std.proofs.lemmas.List.{drop-drop, length-drop}
use Rattle.std.proofs.lemmas.List.Sums.{AllPass-from_list_all}
use Rattle.std.proofs.lemmas.Bool.{eqb-true}
use Rattle.instance_files.specs.Lines.{is_blank, is_line_feed, is_nonempty, without_return, fields}
use Rattle.instance_files.specs.NextField.{first_line, behind_line, line_ahead, fields_ahead, IsFieldAt, IsLineEndAt, IsFileEnd}
use Rattle.instance_files.specs.Scan.{blanks_len, begins_with_feed, is_line_end, field_len, line_end_len}

or-false : (s t : Bool) → (s || t) ≡ false → (s ≡ false) × (t ≡ false)
or-false false t h = (refl, h)
or-false true t h = absurd cc

or-true : (s t : Bool) → (s || t) ≡ true → (s ≡ true) ⊎ (t ≡ true)
or-true false t h = inr h
or-true true t h = inl refl

and-false : (s : Bool) → (s && true) ≡ false → s ≡ false
and-false false h = refl
and-false true h = absurd cc

and-both : (s t : Bool) → (s && t) ≡ true → (s ≡ true) × (t ≡ true)
and-both true t h = (refl, h)
and-both false t h = absurd cc

blank-is : (b : ℕ) → is_blank b ≡ true → (b ≡ 32) ⊎ (b ≡ 9)
blank-is b h = elim (or-true (eqb b 32) (eqb b 9) h) [ inl p ↦ inl (eqb-true b 32 p) | inr p ↦ inr (eqb-true b 9 p) ]

-- a byte before the line's end is one of the line
line-more : (b : ℕ) (bytes : List ℕ) → is_line_end (b ∷ bytes) ≡ false → line_ahead (b ∷ bytes) ≡ b ∷ line_ahead bytes
line-more b [] h =
    let p = or-false (eqb b 10) (eqb b 13 && true) h in
    let no_feed : eqb b 10 ≡ false = p.0 in
    let no_return : eqb b 13 ≡ false = and-false (eqb b 13) p.1 in
    rw (no_feed, no_return) refl
line-more b (c ∷ bytes) h =
    let p = or-false (eqb b 10) (eqb b 13 && eqb c 10) h in
    let no_feed : eqb b 10 ≡ false = p.0 in
    rw no_feed (by_test (eqb c 10) p.1)
  where
    by_test : (t : Bool) → (eqb b 13 && t) ≡ false → without_return (b ∷ cond t [] (c ∷ first_line bytes)) ≡ b ∷ without_return (cond t [] (c ∷ first_line bytes))
    by_test true q = let no_return : eqb b 13 ≡ false = and-false (eqb b 13) q in rw no_return refl
    by_test false q = refl

behind-more : (b : ℕ) (bytes : List ℕ) → is_line_end (b ∷ bytes) ≡ false → behind_line (b ∷ bytes) ≡ behind_line bytes
behind-more b bytes h =
    let no_feed : eqb b 10 ≡ false = (or-false (eqb b 10) (eqb b 13 && begins_with_feed bytes) h).0 in rw no_feed refl

-- at the line's end no byte of it is left
line-none : (bytes : List ℕ) → is_line_end bytes ≡ true → line_ahead bytes ≡ []
line-none [] h = refl
line-none (b ∷ bytes) h =
    elim (or-true (eqb b 10) (eqb b 13 && begins_with_feed bytes) h) [
      | inl feed ↦ rw feed refl
      | inr back ↦ at_return b bytes (and-both (eqb b 13) (begins_with_feed bytes) back).0 (and-both (eqb b 13) (begins_with_feed bytes) back).1
    ]
  where
    at_return : (b : ℕ) (bytes : List ℕ) → eqb b 13 ≡ true → begins_with_feed bytes ≡ true → line_ahead (b ∷ bytes) ≡ []
    at_return b [] p q = rw (eqb-true b 13 p) refl
    at_return b (c ∷ bytes) p q = rw (eqb-true b 13 p, q) refl

-- a blank before a line adds no field
blank-more : (b : ℕ) (bytes : List ℕ) → is_blank b ≡ true → (fields_ahead (b ∷ bytes) ≡ fields_ahead bytes) × (behind_line (b ∷ bytes) ≡ behind_line bytes)
unfolding fields_ahead
blank-more b bytes h =
    elim (blank-is b h) [
      | inl is ↦ rw is (ap fields (line-more 32 bytes refl), refl)
      | inr is ↦ rw is (ap fields (line-more 9 bytes refl), refl)
    ]

-- what is the same behind the blanks that stand first
pub record SkipsBlanks (bytes : List ℕ) (n : ℕ) : Type 0 where
  pub within : n ≤ length bytes
  pub blanks : list_all is_blank (take n bytes) ≡ true
  pub same_fields : fields_ahead bytes ≡ fields_ahead (drop n bytes)
  pub same_line : behind_line bytes ≡ behind_line (drop n bytes)
  pub stops : field_len (drop n bytes) ≡ 0 → is_line_end (drop n bytes) ≡ true

pub blanks-skipped : (bytes : List ℕ) → SkipsBlanks bytes (blanks_len bytes)
blanks-skipped [] = record { within = omega arith; blanks = refl; same_fields = refl; same_line = refl; stops = λ e. refl }
blanks-skipped (b ∷ bytes) = by_test (is_blank b) refl (blanks-skipped bytes)
  where
    stopped : (t s : Bool) → t ≡ false → cond (t || s) 0 (suc (field_len bytes)) ≡ 0 → s ≡ true
    stopped t true e z = refl
    stopped false false e z = absurd (omega arith)
    stopped true false e z = absurd cc

    by_test : (t : Bool) → is_blank b ≡ t → SkipsBlanks bytes (blanks_len bytes) → SkipsBlanks (b ∷ bytes) (cond t (suc (blanks_len bytes)) 0)
    by_test true h behind =
        let more = blank-more b bytes h in
        record { within = omega (arith, behind.within); blanks = rw h behind.blanks; same_fields = more.0 ∙ behind.same_fields; same_line = more.1 ∙ behind.same_line; stops = behind.stops }
    by_test false h behind = record { within = omega arith; blanks = refl; same_fields = refl; same_line = refl; stops = stopped (is_blank b) (is_line_end (b ∷ bytes)) h }

-- the parts between the blanks of a line that begins with n bytes before a blank or the line's end
record BeginsWith (bytes : List ℕ) (n : ℕ) : Type 0 where
  pub parts : List (List ℕ)
  pub within : n ≤ length bytes
  pub whole : slice_split is_blank (line_ahead bytes) ≡ take n bytes ∷ parts
  pub rest : slice_split is_blank (line_ahead (drop n bytes)) ≡ [] ∷ parts
  pub same_line : behind_line bytes ≡ behind_line (drop n bytes)

word-first : (bytes : List ℕ) → BeginsWith bytes (field_len bytes)
word-first [] = record { parts = []; within = omega arith; whole = refl; rest = refl; same_line = refl }
word-first (b ∷ bytes) = by_test (is_blank b || is_line_end (b ∷ bytes)) refl (word-first bytes)
  where
    after_blank : (c : ℕ) → is_line_end (c ∷ bytes) ≡ false → is_blank c ≡ true → slice_split is_blank (line_ahead (c ∷ bytes)) ≡ [] ∷ slice_split is_blank (line_ahead bytes)
    after_blank c h blank = ap (slice_split is_blank) (line-more c bytes h) ∙ rw blank refl

    stopped : (is_blank b ≡ true) ⊎ (is_line_end (b ∷ bytes) ≡ true) → BeginsWith (b ∷ bytes) 0
    stopped (inl h) =
        elim (blank-is b h) [
          | inl is ↦ rw is (record { parts = slice_split is_blank (line_ahead bytes); within = omega arith; whole = after_blank 32 refl refl; rest = after_blank 32 refl refl; same_line = refl })
          | inr is ↦ rw is (record { parts = slice_split is_blank (line_ahead bytes); within = omega arith; whole = after_blank 9 refl refl; rest = after_blank 9 refl refl; same_line = refl })
        ]
    stopped (inr h) =
        let none = ap (slice_split is_blank) (line-none (b ∷ bytes) h) in
        record { parts = []; within = omega arith; whole = none; rest = none; same_line = refl }

    by_test : (t : Bool) → (is_blank b || is_line_end (b ∷ bytes)) ≡ t → BeginsWith bytes (field_len bytes) → BeginsWith (b ∷ bytes) (cond t 0 (suc (field_len bytes)))
    by_test true h behind = stopped (or-true (is_blank b) (is_line_end (b ∷ bytes)) h)
    by_test false h behind =
        let p = or-false (is_blank b) (is_line_end (b ∷ bytes)) h in
        let no_blank : is_blank b ≡ false = p.0 in
        record {
          parts = behind.parts;
          within = omega (arith, behind.within);
          whole = ap (slice_split is_blank) (line-more b bytes p.1) ∙ rw no_blank (ap (onto_first b) behind.whole);
          rest = behind.rest;
          same_line = behind-more b bytes p.1 ∙ behind.same_line;
        }

-- what a field leaves of its line
pub record TakesField (bytes : List ℕ) (n : ℕ) : Type 0 where
  pub within : n ≤ length bytes
  pub first : 0 < n → fields_ahead bytes ≡ take n bytes ∷ fields_ahead (drop n bytes)
  pub same_line : behind_line bytes ≡ behind_line (drop n bytes)

some-taken : (n : ℕ) (bytes : List ℕ) → 0 < n → n ≤ length bytes → is_nonempty (take n bytes) ≡ true
some-taken zero bytes some within = absurd (omega arith)
some-taken (suc n) [] some within = absurd (omega arith)
some-taken (suc n) (b ∷ bytes) some within = refl

pub field-taken : (bytes : List ℕ) → TakesField bytes (field_len bytes)
unfolding fields_ahead
field-taken bytes =
    let word = word-first bytes in
    record {
      within = word.within;
      first = λ some.
          let one : is_nonempty (take (field_len bytes) bytes) ≡ true = some-taken (field_len bytes) bytes some word.within in
          ap (filter is_nonempty) word.whole ∙ rw one refl ∙ sym (ap (λ (x : List (List ℕ)). take (field_len bytes) bytes ∷ filter is_nonempty x) word.rest);
      same_line = word.same_line;
    }

pub none-at_end : (bytes : List ℕ) → is_line_end bytes ≡ true → fields_ahead bytes ≡ []
unfolding fields_ahead
none-at_end bytes h = ap fields (line-none bytes h)

pub behind-at_end : (bytes : List ℕ) (n : ℕ) → is_line_end bytes ≡ true → line_end_len bytes ≡ Some n → (behind_line bytes ≡ Some (drop n bytes)) × (0 < n) × (n ≤ length bytes)
behind-at_end [] n h e = absurd cc
behind-at_end (b ∷ []) n h e = by_test (eqb b 10) e
  where
    by_test : (t : Bool) → cond {A = Option ℕ} t (Some 1) None ≡ Some n → (cond t (Some []) None ≡ Some (drop n (b ∷ []))) × (0 < n) × (n ≤ 1)
    by_test true q = let one : 1 ≡ n = cc in rw (← one) (refl, omega arith, omega arith)
    by_test false q = absurd cc
behind-at_end (b ∷ c ∷ bytes) n h e = by_test (eqb b 10) h e
  where
    by_test : (t : Bool) → (t || (eqb b 13 && eqb c 10)) ≡ true → cond {A = Option ℕ} t (Some 1) (Some 2) ≡ Some n → (cond t (Some (c ∷ bytes)) (cond (eqb c 10) (Some bytes) (behind_line bytes)) ≡ Some (drop n (b ∷ c ∷ bytes))) × (0 < n) × (n ≤ suc (suc (length bytes)))
    by_test true p q = let one : 1 ≡ n = cc in rw (← one) (refl, omega arith, omega arith)
    by_test false p q =
        let two : 2 ≡ n = cc in
        let feed : eqb c 10 ≡ true = (and-both (eqb b 13) (eqb c 10) p).1 in
        rw (← two) (rw feed refl, omega arith, omega arith)

pub behind-none : (bytes : List ℕ) → is_line_end bytes ≡ true → line_end_len bytes ≡ None → behind_line bytes ≡ None
behind-none [] h e = refl
behind-none (b ∷ []) h e = by_test (eqb b 10) e
  where
    by_test : (t : Bool) → cond {A = Option ℕ} t (Some 1) None ≡ None → cond {A = Option (List ℕ)} t (Some []) None ≡ None
    by_test true q = absurd cc
    by_test false q = refl
behind-none (b ∷ c ∷ bytes) h e = by_test (eqb b 10) e
  where
    by_test : (t : Bool) → cond {A = Option ℕ} t (Some 1) (Some 2) ≡ None → cond t (Some (c ∷ bytes)) (cond (eqb c 10) (Some bytes) (behind_line bytes)) ≡ None
    by_test true q = absurd cc
    by_test false q = absurd cc

range-at : (from n : ℕ) (bytes : List ℕ) → slice_range bytes from (from + n) ≡ take n (drop from bytes)
range-at from n bytes = let same : from + n - from ≡ n = omega arith in rw same refl

-- a field behind k blanks, of n bytes
pub next-found : (bytes : List ℕ) (from k n : ℕ) → from ≤ length bytes → SkipsBlanks (drop from bytes) k → TakesField (drop k (drop from bytes)) n → 0 < n → IsFieldAt bytes from (from + k) (from + k + n)
next-found bytes from k n le skips takes some =
    let at_start : drop k (drop from bytes) ≡ drop (from + k) bytes = drop-drop k from bytes in
    let at_end : drop n (drop k (drop from bytes)) ≡ drop (from + k + n) bytes = ap (drop n) at_start ∙ drop-drop n (from + k) bytes in
    let room : length (drop k (drop from bytes)) ≡ length bytes - from - k = length-drop k (drop from bytes) ∙ ap (λ (x : ℕ). x - k) (length-drop from bytes) in
    let fewer : length (drop from bytes) ≡ length bytes - from = length-drop from bytes in
    record {
      behind = omega arith;
      some = omega arith;
      within = omega (arith, takes.within, skips.within);
      blanks = AllPass-from_list_all is_blank (slice_range bytes from (from + k)) (ap (list_all is_blank) (range-at from k bytes) ∙ skips.blanks);
      first = skips.same_fields ∙ takes.first some ∙ ap₂ (λ (x : List ℕ) (y : List (List ℕ)). x ∷ y) (ap (take n) at_start ∙ sym (range-at (from + k) n bytes)) (ap fields_ahead at_end);
      same_line = skips.same_line ∙ takes.same_line ∙ ap behind_line at_end;
    }

-- no field, but the line's end behind k blanks
pub next-line : (bytes : List ℕ) (from k n : ℕ) → from ≤ length bytes → SkipsBlanks (drop from bytes) k → field_len (drop k (drop from bytes)) ≡ 0 → line_end_len (drop k (drop from bytes)) ≡ Some n → IsLineEndAt bytes from (from + k + n)
next-line bytes from k n le skips none end =
    let at_start : drop k (drop from bytes) ≡ drop (from + k) bytes = drop-drop k from bytes in
    let at_end : drop n (drop k (drop from bytes)) ≡ drop (from + k + n) bytes = ap (drop n) at_start ∙ drop-drop n (from + k) bytes in
    let room : length (drop k (drop from bytes)) ≡ length bytes - from - k = length-drop k (drop from bytes) ∙ ap (λ (x : ℕ). x - k) (length-drop from bytes) in
    let fewer : length (drop from bytes) ≡ length bytes - from = length-drop from bytes in
    let behind = behind-at_end (drop k (drop from bytes)) n (skips.stops none) end in
    record {
      none = skips.same_fields ∙ none-at_end (drop k (drop from bytes)) (skips.stops none);
      behind = skips.same_line ∙ behind.0 ∙ ap (λ (x : List ℕ). Some x) at_end;
      past = omega (arith, behind.1);
      within = omega (arith, behind.2, skips.within);
    }

pub next-none : (bytes : List ℕ) (from k : ℕ) → SkipsBlanks (drop from bytes) k → field_len (drop k (drop from bytes)) ≡ 0 → line_end_len (drop k (drop from bytes)) ≡ None → IsFileEnd bytes from
next-none bytes from k skips none end = record {
  none = skips.same_fields ∙ none-at_end (drop k (drop from bytes)) (skips.stops none);
  last = skips.same_line ∙ behind-none (drop k (drop from bytes)) (skips.stops none) end;
}
