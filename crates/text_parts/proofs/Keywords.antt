-- One of several words, none of which begins another.
use Rattle.std.proofs.Common.{◌≡◌, ℕ, ◌≤◌, Bool, true, false, cond, eqb, ◌&&◌, List, [], ◌∷◌, ◌++◌, length, min, Result, Ok, Err, refl, sym, ap, subst, ◌∙◌, inl, inr, ◌⊎◌, append_assoc, arith}
use Rattle.std.proofs.lemmas.Bool.{eqb-false, cases_lt}
use Rattle.std.proofs.lemmas.List.{append-nil, length-append}
use Rattle.text_parts.specs.Stops.{Stops}
use Rattle.text_parts.specs.Reading.{word_at, or_else, one_of}
use Rattle.text_parts.specs.Texts.{WordText}
use Rattle.text_parts.specs.Reads.{IsSpelling, Reads, NoByte}
use Rattle.text_parts.proofs.Laws.{ok_value, overlap}
use Rattle.text_parts.proofs.Parts.{chosen, word_reads, not_longer}

-- ---- the farther of two stops

nearer_ends : (Second : List ℕ → Type 0) (good bad : List ℕ) (b : ℕ) (behind tail middle : List ℕ) → ((c : ℕ) (w rest : List ℕ) → bad ≡ c ∷ w → Second (good ++ c ∷ rest) → ⊥) → bad ≡ middle ++ b ∷ behind → Second ((good ++ middle) ++ b ∷ tail) → ⊥
nearer_ends Second good bad b behind tail [] ends e p = ends b behind tail e (subst Second (append_assoc good [] (b ∷ tail)) p)
nearer_ends Second good bad b behind tail (c ∷ middle) ends e p = ends c (middle ++ b ∷ behind) (middle ++ b ∷ tail) e (subst Second (append_assoc good (c ∷ middle) (b ∷ tail)) p)

module _ {First Second : List ℕ → Type 0} where
  -- where the first stop is no nearer than the second, texts of both kinds stop there
  pub farther : (bytes : List ℕ) (left nearer : ℕ) → left ≤ nearer → Stops First bytes left → Stops Second bytes nearer → Stops (λ text. First text ⊎ Second text) bytes left
  farther bytes left nearer le s t = record {
    good = s.good;
    bad = s.bad;
    splits = s.splits;
    left_is = s.left_is;
    next = s.next;
    more = s.more;
    begins = inl s.begins;
    ends = λ b behind tail starts p. elim p [
      | inl q ↦ s.ends b behind tail starts q
      | inr q ↦ elim (overlap s.good s.bad t.good t.bad (sym s.splits ∙ t.splits)) [
        | inl w ↦ nearer_ends Second t.good t.bad b behind tail w.middle t.ends (w.short ∙ ap (λ (x : List ℕ). w.middle ++ x) starts) (subst (λ (x : List ℕ). Second (x ++ b ∷ tail)) w.long q)
        | inr w ↦ absurd (omega (arith, s.left_is, t.left_is, ap length w.short, length-append w.middle t.bad))
      ]
    ];
    none = λ text behind p e. elim p [ inl q ↦ s.none text behind q e | inr q ↦ t.none text behind q e ];
  }

pub stops_same : {Was Is : List ℕ → Type 0} → ((text : List ℕ) → Was text → Is text) → ((text : List ℕ) → Is text → Was text) → (bytes : List ℕ) (left : ℕ) → Stops Was bytes left → Stops Is bytes left
stops_same to from bytes left s = record {
  good = s.good;
  bad = s.bad;
  splits = s.splits;
  left_is = s.left_is;
  next = s.next;
  more = s.more;
  begins = to _ s.begins;
  ends = λ b behind tail starts p. s.ends b behind tail starts (from _ p);
  none = λ text behind p e. s.none text behind (from _ p) e;
}

-- ---- words that differ before either ends

abbrev pub differ : List ℕ → List ℕ → Bool
differ [] v = false
differ (a ∷ w) [] = false
differ (a ∷ w) (b ∷ v) = cond (eqb a b) (differ w v) true

differ_apart : (w v x y : List ℕ) → differ w v ≡ true → w ++ x ≡ v ++ y → ⊥
differ_apart [] v x y t e = absurd cc
differ_apart (a ∷ w) [] x y t e = absurd cc
differ_apart (a ∷ w) (b ∷ v) x y t e =
    elim (chosen (eqb a b) (differ w v) true true t) [
      | inl c ↦ differ_apart w v x y c.1 cc
      | inr c ↦ eqb-false a b c.0 cc
    ]

abbrev pub differs_from_all : {K : Type 0} → (K → List ℕ) → K → List K → Bool
differs_from_all word k [] = true
differs_from_all word k (j ∷ ks) = differ (word k) (word j) && differs_from_all word k ks

abbrev pub all_differ : {K : Type 0} → (K → List ℕ) → List K → Bool
all_differ word [] = true
all_differ word (k ∷ ks) = differs_from_all word k ks && all_differ word ks

abbrev pub Among : {K : Type 0} → K → List K → Type 0
Among k [] = ⊥
Among k (j ∷ ks) = (k ≡ j) ⊎ Among k ks

and_both : (a b : Bool) → (a && b) ≡ true → (a ≡ true) × (b ≡ true)
and_both true b e = (refl, e)
and_both false b e = absurd cc

module _ {K : Type 0} (word : K → List ℕ) where
  first_apart : (k : K) (ks : List K) (j : K) (x y : List ℕ) → differs_from_all word k ks ≡ true → Among j ks → word k ++ x ≡ word j ++ y → ⊥
  first_apart k [] j x y t m e = m
  first_apart k (i ∷ ks) j x y t (inl same) e = differ_apart (word k) (word i) x y (and_both _ _ t).0 (e ∙ ap (λ (h : K). word h ++ y) same)
  first_apart k (i ∷ ks) j x y t (inr m) e = first_apart k ks j x y (and_both _ _ t).1 m e

  same_word : (ks : List K) (i j : K) (x y : List ℕ) → all_differ word ks ≡ true → Among i ks → Among j ks → word i ++ x ≡ word j ++ y → i ≡ j
  same_word [] i j x y t m n e = absurd m
  same_word (k ∷ ks) i j x y t (inl p) (inl q) e = p ∙ sym q
  same_word (k ∷ ks) i j x y t (inl p) (inr n) e = absurd (first_apart k ks j x y (and_both _ _ t).0 n (ap (λ (h : K). word h ++ x) (sym p) ∙ e))
  same_word (k ∷ ks) i j x y t (inr m) (inl q) e = absurd (first_apart k ks i y x (and_both _ _ t).0 m (ap (λ (h : K). word h ++ y) (sym q) ∙ sym e))
  same_word (k ∷ ks) i j x y t (inr m) (inr n) e = same_word ks i j x y (and_both _ _ t).1 m n e

  abbrev pub IsKeyword : List K → K → List ℕ → Type 0
  IsKeyword ks k text = Among k ks × (text ≡ word k)

  record FoundWord (ks : List K) (bytes : List ℕ) (k : K) (rest : List ℕ) : Type 0 where
    among : Among k ks
    splits : bytes ≡ word k ++ rest

  by_first : (k : K) (ks : List K) (bytes : List ℕ) (j : K) (rest : List ℕ) (r : Result (Unit {0} × List ℕ) ℕ) (others : Result (K × List ℕ) ℕ) → or_else k r others ≡ Ok (j, rest)
      → ((k ≡ j) × (r ≡ Ok (tt, rest))) ⊎ (others ≡ Ok (j, rest))
  by_first k ks bytes j rest (Ok x) others e = let both = ok_value k j x.1 rest e in inl (both.0, ap (λ (y : List ℕ). Ok (tt, y)) both.1)
  by_first k ks bytes j rest (Err left) (Ok x) e = inr e
  by_first k ks bytes j rest (Err left) (Err least) e = absurd cc

  word_of : (k : K) (ks : List K) (bytes : List ℕ) (j : K) (rest : List ℕ) → one_of word ks bytes ≡ Ok (j, rest) → FoundWord ks bytes j rest
  unfolding one_of
  word_of k [] bytes j rest e = absurd cc
  word_of k (i ∷ ks) bytes j rest e =
      elim (by_first i ks bytes j rest (word_at (word i) bytes) (one_of word ks bytes) e) [
        | inl p ↦ record { among = inl (sym p.0); splits = let f = (word_reads (word i)).found bytes rest tt p.1 in f.splits ∙ ap (λ (x : List ℕ). x ++ rest) (f.spelled ∙ ap word p.0) }
        | inr q ↦ let f = word_of k ks bytes j rest q in record { among = inr f.among; splits = f.splits }
      ]

  word_again : (ks : List K) (k : K) (rest : List ℕ) → all_differ word ks ≡ true → Among k ks → one_of word ks (word k ++ rest) ≡ Ok (k, rest)
  unfolding one_of
  word_again [] k rest t m = absurd m
  word_again (i ∷ ks) k rest t (inl same) =
      let first = (word_reads (word i)).again tt (word k) rest (ap word same) (λ b behind e none. none) in
      rw first (let h = same in cc)
  word_again (i ∷ ks) k rest t (inr m) = past (word_at (word i) (word k ++ rest)) refl (word_again ks k rest (and_both _ _ t).1 m)
    where
      past : (r : Result (Unit {0} × List ℕ) ℕ) → r ≡ word_at (word i) (word k ++ rest) → one_of word ks (word k ++ rest) ≡ Ok (k, rest) → or_else i r (one_of word ks (word k ++ rest)) ≡ Ok (k, rest)
      past (Ok x) is others =
          let f = (word_reads (word i)).found (word k ++ rest) x.1 x.0 (sym is) in
          absurd (first_apart i ks k x.1 rest (and_both _ _ t).0 m (sym (f.splits ∙ ap (λ (y : List ℕ). y ++ x.1) f.spelled)))
      past (Err left) is others = rw others refl

  both_stopped : (k : K) (r : Result (Unit {0} × List ℕ) ℕ) (others : Result (K × List ℕ) ℕ) (left : ℕ) → or_else k r others ≡ Err left
      → (first : ℕ) × (least : ℕ) × (r ≡ Err first) × (others ≡ Err least) × (min first least ≡ left)
  both_stopped k (Ok x) others left e = absurd cc
  both_stopped k (Err first) (Ok x) left e = absurd cc
  both_stopped k (Err first) (Err least) left e = (first, least, refl, refl, cc)

  to_keyword : (k : K) (ks : List K) (text : List ℕ) → IsSpelling (WordText (word k)) text ⊎ IsSpelling (IsKeyword ks) text → IsSpelling (IsKeyword (k ∷ ks)) text
  to_keyword k ks text (inl p) = (k, (inl refl, p.1))
  to_keyword k ks text (inr q) = (q.0, (inr q.1.0, q.1.1))

  from_keyword : (k : K) (ks : List K) (text : List ℕ) → IsSpelling (IsKeyword (k ∷ ks)) text → IsSpelling (WordText (word k)) text ⊎ IsSpelling (IsKeyword ks) text
  from_keyword k ks text p = by_place p.1.0 p.1.1
    where
      by_place : Among p.0 (k ∷ ks) → text ≡ word p.0 → IsSpelling (WordText (word k)) text ⊎ IsSpelling (IsKeyword ks) text
      by_place (inl same) e = inl (tt, e ∙ ap word same)
      by_place (inr m) e = inr (p.0, (m, e))

  alone : (k : K) (text : List ℕ) → IsSpelling (IsKeyword (k ∷ [])) text → IsSpelling (WordText (word k)) text
  alone k text p = elim (from_keyword k [] text p) [ inl q ↦ q | inr q ↦ absurd q.1.0 ]

  swapped : (First Second : List ℕ → Type 0) (text : List ℕ) → First text ⊎ Second text → Second text ⊎ First text
  swapped First Second text (inl p) = inr p
  swapped First Second text (inr p) = inl p

  nearest : (bytes : List ℕ) (k : K) (ks : List K) (first least : ℕ) → Stops (IsSpelling (WordText (word k))) bytes first → Stops (IsSpelling (IsKeyword ks)) bytes least → Stops (IsSpelling (IsKeyword (k ∷ ks))) bytes (min first least)
  nearest bytes k ks first least s t =
      elim (cases_lt first least) [
        | inl lt ↦ subst (Stops (IsSpelling (IsKeyword (k ∷ ks))) bytes) (omega arith) (stops_same (to_keyword k ks) (from_keyword k ks) bytes first (farther bytes first least (omega arith) s t))
        | inr le ↦ subst (Stops (IsSpelling (IsKeyword (k ∷ ks))) bytes) (omega arith) (stops_same (λ text p. to_keyword k ks text (swapped (IsSpelling (IsKeyword ks)) (IsSpelling (WordText (word k))) text p)) (λ text p. swapped (IsSpelling (WordText (word k))) (IsSpelling (IsKeyword ks)) text (from_keyword k ks text p)) bytes least (farther bytes least first le t s))
      ]

  keyword_stopped : (k : K) (ks : List K) (bytes : List ℕ) (left : ℕ) → one_of word (k ∷ ks) bytes ≡ Err left → Stops (IsSpelling (IsKeyword (k ∷ ks))) bytes left
  unfolding one_of
  keyword_stopped k [] bytes left e =
      let both = both_stopped k (word_at (word k) bytes) (Err (length bytes)) left e in
      let s = (word_reads (word k)).stopped bytes both.0 both.2 in
      let whole : length bytes ≡ both.1 = let h = both.3 in cc in
      let same : both.0 ≡ left = omega (arith, both.4, whole, ap length s.splits, length-append s.good s.bad, s.left_is) in
      subst (Stops (IsSpelling (IsKeyword (k ∷ []))) bytes) same (stops_same (λ text p. to_keyword k [] text (inl p)) (alone k) bytes both.0 s)
  keyword_stopped k (j ∷ ks) bytes left e =
      let both = both_stopped k (word_at (word k) bytes) (one_of word (j ∷ ks) bytes) left e in
      subst (Stops (IsSpelling (IsKeyword (k ∷ j ∷ ks))) bytes) both.4
      (nearest bytes k (j ∷ ks) both.0 both.1 ((word_reads (word k)).stopped bytes both.0 both.2) (keyword_stopped j ks bytes both.1 both.3))

  pub keyword_reads : (k : K) (ks : List K) → all_differ word (k ∷ ks) ≡ true → Reads (IsKeyword (k ∷ ks)) NoByte (one_of word (k ∷ ks))
  keyword_reads k ks t = record {
    found = λ bytes rest j e. let f = word_of k (k ∷ ks) bytes j rest e in record {
      text = word j;
      spelled = (f.among, refl);
      splits = f.splits;
      ends = λ b behind tail i starts p.
          let same = same_word (k ∷ ks) j i (b ∷ tail) [] t f.among p.0 (p.1 ∙ sym (append-nil (word i))) in
          not_longer (word j) b tail (p.1 ∙ ap word (sym same));
    };
    again = λ j text rest p outside. ap (λ (x : List ℕ). one_of word (k ∷ ks) (x ++ rest)) p.1 ∙ word_again (k ∷ ks) j rest t p.0;
    stopped = keyword_stopped k ks;
    some_value = k;
    some_text = word k;
    some_spelled = (inl refl, refl);
  }
