-- The readings that others are made of: a word, nothing, a function of a value, one of two by the first byte.
use Rattle.std.proofs.Common.{◌≡◌, ℕ, suc, Bool, true, false, cond, eqb, List, [], ◌∷◌, ◌++◌, length, Ok, Err, refl, sym, ap, subst, ◌∙◌, inl, inr, ◌⊎◌}
use Rattle.std.proofs.lemmas.Bool.{eqb-true, eqb-false, eq-eqb, ne_eqb}
use Rattle.text_parts.specs.Stops.{Stops}
use Rattle.text_parts.specs.Reading.{Reading, word_at, on_byte, mapped}
use Rattle.text_parts.specs.Texts.{WordText}
use Rattle.text_parts.specs.Reads.{IsSpelling, StartsOutside, Found, Reads, NoByte}
use Rattle.text_parts.proofs.Laws.{bind_ok, bind_err, ok_value, first_byte}

-- what an `if` came to
pub chosen : {X : Type 0} (t : Bool) (x y z : X) → cond t x y ≡ z → ((t ≡ true) × (x ≡ z)) ⊎ ((t ≡ false) × (y ≡ z))
chosen true x y z e = inl (refl, e)
chosen false x y z e = inr (refl, e)

-- ---- a word

word_found : (word bytes rest : List ℕ) (a : Unit {0}) → word_at word bytes ≡ Ok (a, rest) → bytes ≡ word ++ rest
unfolding word_at
word_found [] bytes rest a e = (ok_value tt a bytes rest e).1
word_found (w ∷ word) [] rest a e = absurd cc
word_found (w ∷ word) (b ∷ bytes) rest a e =
    elim (chosen (eqb b w) (word_at word bytes) (Err (suc (length bytes))) (Ok (a, rest)) e) [
      | inl c ↦ let h = eqb-true b w c.0 in let t = word_found word bytes rest a c.1 in cc
      | inr c ↦ let h = c.1 in absurd cc
    ]

word_again : (word rest : List ℕ) → word_at word (word ++ rest) ≡ Ok (tt, rest)
unfolding word_at
word_again [] rest = refl
word_again (w ∷ word) rest = rw (eq-eqb w w refl) (word_again word rest)

word_stopped : (word bytes : List ℕ) (left : ℕ) → word_at word bytes ≡ Err left → Stops (IsSpelling (WordText word)) bytes left
unfolding word_at
word_stopped [] bytes left e = absurd cc
word_stopped (w ∷ word) [] left e = record {
  good = [];
  bad = [];
  splits = refl;
  left_is = cc;
  next = w;
  more = word;
  begins = (tt, refl);
  ends = λ b behind tail starts spelled. absurd cc;
  none = λ text behind spelled split. let h : text ≡ w ∷ word = spelled.1 in let k : [] ≡ (w ∷ word) ++ behind = split ∙ ap (λ (x : List ℕ). x ++ behind) h in absurd cc;
}
word_stopped (w ∷ word) (b ∷ bytes) left e =
    elim (chosen (eqb b w) (word_at word bytes) (Err (suc (length bytes))) (Err left) e) [
      | inl c ↦
          let s = word_stopped word bytes left c.1 in
          let h = eqb-true b w c.0 in
          record {
            good = w ∷ s.good;
            bad = s.bad;
            splits = let p = s.splits in cc;
            left_is = s.left_is;
            next = s.next;
            more = s.more;
            begins = (tt, ap (λ (x : List ℕ). w ∷ x) s.begins.1);
            ends = λ d behind tail starts spelled. s.ends d behind tail starts (tt, let p = spelled.1 in cc);
            none = λ text behind spelled split. s.none word behind (tt, refl) (let k : b ∷ bytes ≡ (w ∷ word) ++ behind = split ∙ ap (λ (x : List ℕ). x ++ behind) spelled.1 in cc);
          }
      | inr c ↦
          let differ = eqb-false b w c.0 in
          record {
            good = [];
            bad = b ∷ bytes;
            splits = refl;
            left_is = let h = c.1 in cc;
            next = w;
            more = word;
            begins = (tt, refl);
            ends = λ d behind tail starts spelled. differ (let p = spelled.1 in cc);
            none = λ text behind spelled split. differ (let k : b ∷ bytes ≡ (w ∷ word) ++ behind = split ∙ ap (λ (x : List ℕ). x ++ behind) spelled.1 in cc);
          }
    ]

pub not_longer : (xs : List ℕ) (b : ℕ) (tail : List ℕ) → xs ++ b ∷ tail ≡ xs → ⊥
not_longer [] b tail e = absurd cc
not_longer (x ∷ xs) b tail e = not_longer xs b tail cc

pub word_reads : (word : List ℕ) → Reads (WordText word) NoByte (word_at word)
word_reads word = record {
  found = λ bytes rest a e. record {
    text = word;
    spelled = refl;
    splits = word_found word bytes rest a e;
    ends = λ b behind tail c starts spelled. not_longer word b tail spelled;
  };
  again = λ a text rest spelled outside. ap (λ (x : List ℕ). word_at word (x ++ rest)) spelled ∙ word_again word rest;
  stopped = word_stopped word;
  some_value = tt;
  some_text = word;
  some_spelled = refl;
}

-- ---- nothing

-- a value that stands without a text
abbrev pub IsNothing : {C : Type 0} → C → C → List ℕ → Type 0
IsNothing value c text = (c ≡ value) × (text ≡ [])

pub nothing_reads : {C : Type 0} (More : ℕ → Type 0) (value : C) → Reads (IsNothing value) More (λ bytes. Ok (value, bytes))
nothing_reads More value = record {
  found = λ bytes rest a e. let both = ok_value value a bytes rest e in record {
    text = [];
    spelled = (sym both.0, refl);
    splits = both.1;
    ends = λ b behind tail c starts spelled. let h = spelled.1 in absurd cc;
  };
  again = λ a text rest spelled outside. let h = spelled.0 in let k : text ++ rest ≡ rest = ap (λ (x : List ℕ). x ++ rest) spelled.1 in cc;
  stopped = λ bytes left e. absurd cc;
  some_value = value;
  some_text = [];
  some_spelled = (refl, refl);
}

-- ---- a function of a value

pub record IsMapped {A C : Type 0} (f : A → C) (Spells : A → List ℕ → Type 0) (c : C) (text : List ℕ) : Type 0 where
  pub of : A
  pub value_is : c ≡ f of
  pub spelled : Spells of text

module _ {A C : Type 0} (f : A → C) {Spells : A → List ℕ → Type 0} {More : ℕ → Type 0} {read : Reading A} (laws : Reads Spells More read) where
  mapped_found : (bytes rest : List ℕ) (c : C) → mapped f read bytes ≡ Ok (c, rest) → Found (IsMapped f Spells) bytes c rest
  mapped_found bytes rest c e =
      let first = bind_ok (read bytes) (λ x. Ok (f x.0, x.1)) (c, rest) e in
      let p = laws.found bytes first.0.1 first.0.0 first.1 in
      let both = ok_value (f first.0.0) c first.0.1 rest first.2 in
      record {
        text = p.text;
        spelled = record { of = first.0.0; value_is = sym both.0; spelled = p.spelled };
        splits = p.splits ∙ ap (λ (x : List ℕ). p.text ++ x) both.1;
        ends = λ b behind tail d starts m. p.ends b behind tail m.of (both.1 ∙ starts) m.spelled;
      }

  mapped_stopped : (bytes : List ℕ) (left : ℕ) → mapped f read bytes ≡ Err left → Stops (IsSpelling (IsMapped f Spells)) bytes left
  mapped_stopped bytes left e =
      elim (bind_err (read bytes) (λ x. Ok (f x.0, x.1)) left e) [
        | inl first ↦
            let s = laws.stopped bytes left first in
            record {
              good = s.good;
              bad = s.bad;
              splits = s.splits;
              left_is = s.left_is;
              next = s.next;
              more = s.more;
              begins = (f s.begins.0, record { of = s.begins.0; value_is = refl; spelled = s.begins.1 });
              ends = λ b behind tail starts m. s.ends b behind tail starts (m.1.of, m.1.spelled);
              none = λ text behind m split. s.none text behind (m.1.of, m.1.spelled) split;
            }
        | inr w ↦ let h = w.later in absurd cc
      ]

  pub mapped_reads : Reads (IsMapped f Spells) More (mapped f read)
  mapped_reads = record {
    found = mapped_found;
    again = λ c text rest m outside. let h = m.value_is in rw (laws.again m.of text rest m.spelled outside) cc;
    stopped = mapped_stopped;
    some_value = f laws.some_value;
    some_text = laws.some_text;
    some_spelled = record { of = laws.some_value; value_is = refl; spelled = laws.some_spelled };
  }

-- ---- one of two, by the first byte

pub record StartsOther (first : ℕ) (text : List ℕ) : Type 0 where
  pub byte : ℕ
  pub behind : List ℕ
  pub text_is : text ≡ byte ∷ behind
  pub other : byte ≡ first → ⊥

pub record IsBehind {A : Type 0} (first : ℕ) (There : A → List ℕ → Type 0) (a : A) (text : List ℕ) : Type 0 where
  pub behind : List ℕ
  pub text_is : text ≡ first ∷ behind
  pub spelled : There a behind

abbrev pub IsOnByte : {A : Type 0} → ℕ → (A → List ℕ → Type 0) → (A → List ℕ → Type 0) → A → List ℕ → Type 0
IsOnByte first There Other a text = IsBehind first There a text ⊎ Other a text

module _ {A : Type 0} (first : ℕ) {There Other : A → List ℕ → Type 0} {More : ℕ → Type 0} {there other : Reading A} (theres : Reads There More there) (others : Reads Other More other) (starts_other : (a : A) (text : List ℕ) → Other a text → StartsOther first text) where
  -- a text that begins with the byte isn't of the others
  not_other : (a : A) (text behind : List ℕ) → text ≡ first ∷ behind → Other a text → ⊥
  not_other a text behind e p = let s = starts_other a text p in s.other (let h = s.text_is in cc)

  -- a text that begins with another byte is of the others
  is_other : (a : A) (text : List ℕ) (byte : ℕ) (behind : List ℕ) → text ≡ byte ∷ behind → (byte ≡ first → ⊥) → IsOnByte first There Other a text → Other a text
  is_other a text byte behind e differ (inl w) = absurd (differ (let h = w.text_is in cc))
  is_other a text byte behind e differ (inr p) = p

  there_found : (bytes rest : List ℕ) (a : A) → there bytes ≡ Ok (a, rest) → Found (IsOnByte first There Other) (first ∷ bytes) a rest
  there_found bytes rest a e =
      let p = theres.found bytes rest a e in
      record {
        text = first ∷ p.text;
        spelled = inl record { behind = p.text; text_is = refl; spelled = p.spelled };
        splits = ap (λ (x : List ℕ). first ∷ x) p.splits;
        ends = λ b behind tail c starts s. elim s [
          | inl w ↦ p.ends b behind tail c starts (subst (There c) (let h = w.text_is in cc) w.spelled)
          | inr q ↦ not_other c (first ∷ (p.text ++ b ∷ tail)) (p.text ++ b ∷ tail) refl q
        ];
      }

  other_found : (byte : ℕ) (bytes rest : List ℕ) (a : A) → (byte ≡ first → ⊥) → other (byte ∷ bytes) ≡ Ok (a, rest) → Found (IsOnByte first There Other) (byte ∷ bytes) a rest
  other_found byte bytes rest a differ e =
      let p = others.found (byte ∷ bytes) rest a e in
      let s = starts_other a p.text p.spelled in
      record {
        text = p.text;
        spelled = inr p.spelled;
        splits = p.splits;
        ends = λ b behind tail c starts m.
            p.ends b behind tail c starts (is_other c (p.text ++ b ∷ tail) s.byte (s.behind ++ b ∷ tail) (ap (λ (x : List ℕ). x ++ b ∷ tail) s.text_is) s.other m);
      }

  on_byte_found : (bytes rest : List ℕ) (a : A) → on_byte first there other bytes ≡ Ok (a, rest) → Found (IsOnByte first There Other) bytes a rest
  on_byte_found [] rest a e = absurd cc
  on_byte_found (b ∷ bytes) rest a e =
      elim (chosen (eqb b first) (there bytes) (other (b ∷ bytes)) (Ok (a, rest)) e) [
        | inl c ↦ subst (λ (x : ℕ). Found (IsOnByte first There Other) (x ∷ bytes) a rest) (sym (eqb-true b first c.0)) (there_found bytes rest a c.1)
        | inr c ↦ other_found b bytes rest a (eqb-false b first c.0) c.1
      ]

  on_byte_again : (a : A) (text rest : List ℕ) → IsOnByte first There Other a text → StartsOutside More rest → on_byte first there other (text ++ rest) ≡ Ok (a, rest)
  on_byte_again a text rest (inl w) outside = ap (λ (x : List ℕ). on_byte first there other (x ++ rest)) w.text_is ∙ rw (eq-eqb first first refl) (theres.again a w.behind rest w.spelled outside)
  on_byte_again a text rest (inr p) outside =
      let s = starts_other a text p in
      let e : text ++ rest ≡ s.byte ∷ (s.behind ++ rest) = ap (λ (x : List ℕ). x ++ rest) s.text_is in
      ap (on_byte first there other) e ∙ rw (ne_eqb s.byte first s.other) (ap other (sym e) ∙ others.again a text rest p outside)

  there_stopped : (bytes : List ℕ) (left : ℕ) → there bytes ≡ Err left → Stops (IsSpelling (IsOnByte first There Other)) (first ∷ bytes) left
  there_stopped bytes left e =
      let s = theres.stopped bytes left e in
      record {
        good = first ∷ s.good;
        bad = s.bad;
        splits = ap (λ (x : List ℕ). first ∷ x) s.splits;
        left_is = s.left_is;
        next = s.next;
        more = s.more;
        begins = (s.begins.0, inl record { behind = s.good ++ s.next ∷ s.more; text_is = refl; spelled = s.begins.1 });
        ends = λ b behind tail starts m. elim m.1 [
          | inl w ↦ s.ends b behind tail starts (m.0, subst (There m.0) (let h = w.text_is in cc) w.spelled)
          | inr q ↦ not_other m.0 (first ∷ (s.good ++ b ∷ tail)) (s.good ++ b ∷ tail) refl q
        ];
        none = λ text behind m split. elim m.1 [
          | inl w ↦ s.none w.behind behind (m.0, w.spelled) (let h : text ++ behind ≡ first ∷ (w.behind ++ behind) = ap (λ (x : List ℕ). x ++ behind) w.text_is in cc)
          | inr q ↦ let o = starts_other m.0 text q in o.other (let h : text ++ behind ≡ o.byte ∷ (o.behind ++ behind) = ap (λ (x : List ℕ). x ++ behind) o.text_is in cc)
        ];
      }

  other_stopped : (byte : ℕ) (bytes : List ℕ) (left : ℕ) → (byte ≡ first → ⊥) → other (byte ∷ bytes) ≡ Err left → Stops (IsSpelling (IsOnByte first There Other)) (byte ∷ bytes) left
  other_stopped byte bytes left differ e =
      let s = others.stopped (byte ∷ bytes) left e in
      record {
        good = s.good;
        bad = s.bad;
        splits = s.splits;
        left_is = s.left_is;
        next = s.next;
        more = s.more;
        begins = (s.begins.0, inr s.begins.1);
        ends = λ b behind tail starts m.
            let w' = first_byte s.good b behind tail byte bytes (ap (λ (x : List ℕ). s.good ++ x) (sym starts) ∙ sym s.splits) in
            s.ends b behind tail starts (m.0, is_other m.0 (s.good ++ b ∷ tail) byte w'.0 w'.1 differ m.1);
        none = λ text behind m split. elim m.1 [
          | inl w ↦ differ (let h : text ++ behind ≡ first ∷ (w.behind ++ behind) = ap (λ (x : List ℕ). x ++ behind) w.text_is in cc)
          | inr q ↦ s.none text behind (m.0, q) split
        ];
      }

  none_stopped : (left : ℕ) → 0 ≡ left → Stops (IsSpelling (IsOnByte first There Other)) [] left
  none_stopped left e = record {
    good = [];
    bad = [];
    splits = refl;
    left_is = e;
    next = first;
    more = theres.some_text;
    begins = (theres.some_value, inl record { behind = theres.some_text; text_is = refl; spelled = theres.some_spelled });
    ends = λ b behind tail starts m. absurd cc;
    none = λ text behind m split. elim m.1 [
      | inl w ↦ let h : text ++ behind ≡ first ∷ (w.behind ++ behind) = ap (λ (x : List ℕ). x ++ behind) w.text_is in absurd cc
      | inr q ↦ let o = starts_other m.0 text q in let h : text ++ behind ≡ o.byte ∷ (o.behind ++ behind) = ap (λ (x : List ℕ). x ++ behind) o.text_is in absurd cc
    ];
  }

  on_byte_stopped : (bytes : List ℕ) (left : ℕ) → on_byte first there other bytes ≡ Err left → Stops (IsSpelling (IsOnByte first There Other)) bytes left
  on_byte_stopped [] left e = none_stopped left cc
  on_byte_stopped (b ∷ bytes) left e =
      elim (chosen (eqb b first) (there bytes) (other (b ∷ bytes)) (Err left) e) [
        | inl c ↦ subst (λ (x : ℕ). Stops (IsSpelling (IsOnByte first There Other)) (x ∷ bytes) left) (sym (eqb-true b first c.0)) (there_stopped bytes left c.1)
        | inr c ↦ other_stopped b bytes left (eqb-false b first c.0) c.1
      ]

  pub on_byte_reads : Reads (IsOnByte first There Other) More (on_byte first there other)
  on_byte_reads = record {
    found = on_byte_found;
    again = on_byte_again;
    stopped = on_byte_stopped;
    some_value = theres.some_value;
    some_text = first ∷ theres.some_text;
    some_spelled = inl record { behind = theres.some_text; text_is = refl; spelled = theres.some_spelled };
  }
