-- One reading behind another: where both keep the laws of readings, so does the sequence.
use Rattle.std.proofs.Common.{◌≡◌, ℕ, List, [], ◌∷◌, ◌++◌, Result, Ok, Err, refl, sym, ap, subst, ◌∙◌, inl, inr, ◌⊎◌, append_assoc}
use Rattle.std.proofs.lemmas.List.{append-nil}
use Rattle.text_parts.specs.Stops.{Stops}
use Rattle.text_parts.specs.Reads.{IsSpelling, StartsOutside, Ends, Found, Reads}
use Rattle.text_parts.specs.Reading.{Reading, ◌>>=◌}

-- ---- lists that begin alike

pub record Longer (p x q y : List ℕ) : Type 0 where
  pub middle : List ℕ
  pub long : p ≡ q ++ middle
  pub short : y ≡ middle ++ x

pub record Shorter (p x q y : List ℕ) : Type 0 where
  pub next : ℕ
  pub middle : List ℕ
  pub long : q ≡ p ++ next ∷ middle
  pub short : x ≡ next ∷ (middle ++ y)

pub overlap : (p x q y : List ℕ) → p ++ x ≡ q ++ y → Longer p x q y ⊎ Shorter p x q y
overlap [] x [] y e = inl record { middle = []; long = refl; short = sym e }
overlap [] x (b ∷ q) y e = inr record { next = b; middle = q; long = refl; short = e }
overlap (a ∷ p) x [] y e = inl record { middle = a ∷ p; long = refl; short = sym e }
overlap (a ∷ p) x (b ∷ q) y e =
    let heads : a ≡ b = cc in
    let tails : p ++ x ≡ q ++ y = cc in
    elim (overlap p x q y tails) [
      | inl w ↦ inl record { middle = w.middle; long = let l = w.long in cc; short = w.short }
      | inr w ↦ inr record { next = w.next; middle = w.middle; long = let l = w.long in cc; short = w.short }
    ]

-- lists that go on alike begin alike
pub first_byte : (g : List ℕ) (b : ℕ) (u v : List ℕ) (c : ℕ) (w : List ℕ) → g ++ b ∷ u ≡ c ∷ w → (w' : List ℕ) × (g ++ b ∷ v ≡ c ∷ w')
first_byte [] b u v c w e = (v, cc)
first_byte (d ∷ g) b u v c w e = (g ++ b ∷ v, cc)

-- ---- one spelling at the front

pub ok_value : {A : Type 0} (a b : A) (x y : List ℕ) → ◌≡◌ {A = Result (A × List ℕ) ℕ} (Ok (a, x)) (Ok (b, y)) → (a ≡ b) × (x ≡ y)
ok_value {A = A} a b x y e =
    let pair : ◌≡◌ {A = A × List ℕ} (a, x) (b, y) = cc in
    (ap (λ (p : A × List ℕ). p.0) pair, ap (λ (p : A × List ℕ). p.1) pair)

same_value : {A : Type 0} {Spells : A → List ℕ → Type 0} {More : ℕ → Type 0} {read : Reading A} → Reads Spells More read → (a b : A) (t : List ℕ) → Spells a t → Spells b t → a ≡ b
same_value {read = read} laws a b t p q =
    (ok_value a b [] [] (sym (laws.again a t [] p (λ c w e m. absurd cc)) ∙ laws.again b t [] q (λ c w e m. absurd cc))).0

cannot_go_on : {A : Type 0} {Spells : A → List ℕ → Type 0} {More : ℕ → Type 0} {read : Reading A} → Reads Spells More read → (a b : A) (t : List ℕ) (next : ℕ) (middle : List ℕ) → Spells a t → Spells b (t ++ next ∷ middle) → (More next → ⊥) → ⊥
cannot_go_on {More = More} {read = read} laws a b t next middle p q not_more =
    let short : read (t ++ next ∷ middle) ≡ Ok (a, next ∷ middle) = laws.again a t (next ∷ middle) p (λ c w e m. not_more (subst More (let h : c ≡ next = cc in h) m)) in
    let long : read ((t ++ next ∷ middle) ++ []) ≡ Ok (b, []) = laws.again b (t ++ next ∷ middle) [] q (λ c w e m. absurd cc) in
    let same = (ok_value a b (next ∷ middle) [] (sym short ∙ sym (ap read (append-nil (t ++ next ∷ middle))) ∙ long)).1 in
    absurd cc

pub same_front : {A : Type 0} {Spells : A → List ℕ → Type 0} {More : ℕ → Type 0} {read : Reading A} → Reads Spells More read → (a b : A) (t u x y : List ℕ) → Spells a t → Spells b u → u ++ y ≡ t ++ x → StartsOutside More y → Ends Spells t x → (b ≡ a) × (y ≡ x)
same_front {Spells = Spells} laws a b t u x y p q e outside ends =
    elim (overlap u y t x e) [
      | inl w ↦ longer w.middle w.long w.short
      | inr w ↦ absurd (cannot_go_on laws b a u w.next w.middle q (subst (Spells a) w.long p) (outside w.next (w.middle ++ x) w.short))
    ]
  where
    longer : (middle : List ℕ) → u ≡ t ++ middle → x ≡ middle ++ y → (b ≡ a) × (y ≡ x)
    longer [] l s = (same_value laws b a t (subst (Spells b) (l ∙ append-nil t) q) p, sym s)
    longer (c ∷ middle) l s = absurd (ends c (middle ++ y) middle b s (subst (Spells b) l q))

-- ---- one reading behind another

-- a spelling of a key, and behind it a spelling under that key
pub record Joins {A C : Type 0} (Key : A → List ℕ → Type 0) (Under : A → C → List ℕ → Type 0) (c : C) (text : List ℕ) : Type 0 where
  pub key : A
  pub first : List ℕ
  pub second : List ℕ
  pub key_spelled : Key key first
  pub spelled : Under key c second
  pub joined : text ≡ first ++ second

pub bind_ok : {A B : Type 0} (r : Result A ℕ) (f : A → Result B ℕ) (y : B) → (r >>= f) ≡ Ok y → (x : A) × (r ≡ Ok x) × (f x ≡ Ok y)
bind_ok (Ok x) f y e = (x, refl, e)
bind_ok (Err d) f y e = absurd cc

pub record LaterStop {A B : Type 0} (r : Result A ℕ) (f : A → Result B ℕ) (left : ℕ) : Type 0 where
  pub value : A
  pub first : r ≡ Ok value
  pub later : f value ≡ Err left

pub bind_err : {A B : Type 0} (r : Result A ℕ) (f : A → Result B ℕ) (left : ℕ) → (r >>= f) ≡ Err left → (r ≡ Err left) ⊎ LaterStop r f left
bind_err (Ok x) f left e = inr record { value = x; first = refl; later = e }
bind_err (Err d) f left e = inl cc

abbrev pub bind : {A C : Type 0} → Reading A → (A → Reading C) → Reading C
bind read next bytes = read bytes >>= λ x. next x.0 x.1

-- behind a spelling of a key no byte goes on with it
abbrev pub Follows : {A C : Type 0} → (ℕ → Type 0) → (A → C → List ℕ → Type 0) → Type 0
Follows {A = A} {C = C} More Under = (a : A) (c : C) (text rest : List ℕ) → Under a c text → StartsOutside More (text ++ rest)

module _ {A C : Type 0} {Key : A → List ℕ → Type 0} {Under : A → C → List ℕ → Type 0} {More After : ℕ → Type 0} {read : Reading A} {next : A → Reading C} (keys : Reads Key More read) (unders : (a : A) → Reads (Under a) After (next a)) (follows : Follows More Under) where
  outside : (a : A) (c : C) (text : List ℕ) → Under a c text → StartsOutside More text
  outside a c text p = subst (StartsOutside More) (append-nil text) (follows a c text [] p)

  -- the key that was found, and what is spelled under it
  parted : (a : A) (t wanted : List ℕ) (c : C) (w : List ℕ) → Key a t → (j : Joins Key Under c w) → w ≡ t ++ wanted → Ends Key t wanted → Under a c wanted
  parted a t wanted c w p j parts ends =
      let both = same_front keys a j.key t j.first wanted j.second p j.key_spelled (sym j.joined ∙ parts) (outside j.key c j.second j.spelled) ends in
      subst (λ (x : List ℕ). Under a c x) both.1 (subst (λ (k : A). Under k c j.second) both.0 j.spelled)

  -- a key that was found ends also where other bytes follow, if these begin with the same byte
  ends_alike : (t g : List ℕ) (b : ℕ) (u v rest : List ℕ) → rest ≡ g ++ b ∷ v → Ends Key t rest → Ends Key t (g ++ b ∷ u)
  ends_alike t g b u v rest e ends c w tail a starts spelled =
      let w' = first_byte g b u v c w starts in
      ends c w'.0 tail a (e ∙ w'.1) spelled

  bind_found : (bytes rest : List ℕ) (c : C) → bind read next bytes ≡ Ok (c, rest) → Found (Joins Key Under) bytes c rest
  bind_found bytes rest c e =
      let first = bind_ok (read bytes) (λ x. next x.0 x.1) (c, rest) e in
      let a = first.0.0 in
      let p = keys.found bytes first.0.1 a first.1 in
      let q = (unders a).found first.0.1 rest c first.2 in
      record {
        text = p.text ++ q.text;
        spelled = record { key = a; first = p.text; second = q.text; key_spelled = p.spelled; spelled = q.spelled; joined = refl };
        splits = p.splits ∙ ap (λ (x : List ℕ). p.text ++ x) q.splits ∙ sym (append_assoc p.text q.text rest);
        ends = λ b behind tail c' starts j.
            q.ends b behind tail c' starts
            (parted a p.text (q.text ++ b ∷ tail) c' ((p.text ++ q.text) ++ b ∷ tail) p.spelled j (append_assoc p.text q.text (b ∷ tail))
            (ends_alike p.text q.text b tail behind first.0.1 (q.splits ∙ ap (λ (x : List ℕ). q.text ++ x) starts) p.ends));
      }

  bind_again : (c : C) (text rest : List ℕ) → Joins Key Under c text → StartsOutside After rest → bind read next (text ++ rest) ≡ Ok (c, rest)
  bind_again c text rest j outside_rest =
      let regrouped : text ++ rest ≡ j.first ++ (j.second ++ rest) = ap (λ (x : List ℕ). x ++ rest) j.joined ∙ append_assoc j.first j.second rest in
      let first = keys.again j.key j.first (j.second ++ rest) j.key_spelled (follows j.key c j.second rest j.spelled) in
      let second = (unders j.key).again c j.second rest j.spelled outside_rest in
      ap (bind read next) regrouped ∙ rw first second

  stop_in_key : (bytes : List ℕ) (left : ℕ) → Stops (IsSpelling Key) bytes left → Stops (IsSpelling (Joins Key Under)) bytes left
  stop_in_key bytes left s =
      let some = unders s.begins.0 in
      record {
        good = s.good;
        bad = s.bad;
        splits = s.splits;
        left_is = s.left_is;
        next = s.next;
        more = s.more ++ some.some_text;
        begins = (
          some.some_value,
          record {
            key = s.begins.0;
            first = s.good ++ s.next ∷ s.more;
            second = some.some_text;
            key_spelled = s.begins.1;
            spelled = some.some_spelled;
            joined = sym (append_assoc s.good (s.next ∷ s.more) some.some_text);
          },
        );
        ends = λ b behind tail starts j. elim (overlap s.good (b ∷ tail) j.1.first j.1.second j.1.joined) [
          | inl w ↦ s.none j.1.first (w.middle ++ s.bad) (j.1.key, j.1.key_spelled) (s.splits ∙ ap (λ (x : List ℕ). x ++ s.bad) w.long ∙ append_assoc j.1.first w.middle s.bad)
          | inr w ↦ s.ends b behind w.middle starts (j.1.key, subst (Key j.1.key) (w.long ∙ ap (λ (n : ℕ). s.good ++ n ∷ w.middle) (let h = w.short in cc)) j.1.key_spelled)
        ];
        none = λ text behind j e. s.none j.1.first (j.1.second ++ behind) (j.1.key, j.1.key_spelled)
            (e ∙ ap (λ (x : List ℕ). x ++ behind) j.1.joined ∙ append_assoc j.1.first j.1.second behind);
      }

  stop_under : (bytes rest : List ℕ) (a : A) (left : ℕ) → read bytes ≡ Ok (a, rest) → Stops (IsSpelling (Under a)) rest left → Stops (IsSpelling (Joins Key Under)) bytes left
  stop_under bytes rest a left e s =
      let p = keys.found bytes rest a e in
      record {
        good = p.text ++ s.good;
        bad = s.bad;
        splits = p.splits ∙ ap (λ (x : List ℕ). p.text ++ x) s.splits ∙ sym (append_assoc p.text s.good s.bad);
        left_is = s.left_is;
        next = s.next;
        more = s.more;
        begins = (
          s.begins.0,
          record {
            key = a;
            first = p.text;
            second = s.good ++ s.next ∷ s.more;
            key_spelled = p.spelled;
            spelled = s.begins.1;
            joined = append_assoc p.text s.good (s.next ∷ s.more);
          },
        );
        ends = λ b behind tail starts j.
            s.ends b behind tail starts (
              j.0,
              parted a p.text (s.good ++ b ∷ tail) j.0 ((p.text ++ s.good) ++ b ∷ tail) p.spelled j.1 (append_assoc p.text s.good (b ∷ tail))
                  (ends_alike p.text s.good b tail behind rest (s.splits ∙ ap (λ (x : List ℕ). s.good ++ x) starts) p.ends),
            );
        none = λ text behind j split.
            let regrouped : bytes ≡ j.1.first ++ (j.1.second ++ behind) = split ∙ ap (λ (x : List ℕ). x ++ behind) j.1.joined ∙ append_assoc j.1.first j.1.second behind in
            let other = keys.again j.1.key j.1.first (j.1.second ++ behind) j.1.key_spelled (follows j.1.key j.0 j.1.second behind j.1.spelled) in
            let same = ok_value a j.1.key rest (j.1.second ++ behind) (sym e ∙ ap read regrouped ∙ other) in
            s.none j.1.second behind (j.0, subst (λ (k : A). Under k j.0 j.1.second) (sym same.0) j.1.spelled) same.1;
      }

  bind_stopped : (bytes : List ℕ) (left : ℕ) → bind read next bytes ≡ Err left → Stops (IsSpelling (Joins Key Under)) bytes left
  bind_stopped bytes left e =
      elim (bind_err (read bytes) (λ x. next x.0 x.1) left e) [
        | inl first ↦ stop_in_key bytes left (keys.stopped bytes left first)
        | inr w ↦ stop_under bytes w.value.1 w.value.0 left w.first ((unders w.value.0).stopped w.value.1 left w.later)
      ]

  pub bind_reads : Reads (Joins Key Under) After (bind read next)
  bind_reads =
      let some = unders keys.some_value in
      record {
        found = bind_found;
        again = bind_again;
        stopped = bind_stopped;
        some_value = some.some_value;
        some_text = keys.some_text ++ some.some_text;
        some_spelled = record {
          key = keys.some_value;
          first = keys.some_text;
          second = some.some_text;
          key_spelled = keys.some_spelled;
          spelled = some.some_spelled;
          joined = refl;
        };
      }
