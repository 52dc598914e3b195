-- A list of a known length, one item behind the other.
use Rattle.std.proofs.Common.{◌≡◌, ℕ, zero, suc, List, [], ◌∷◌, ◌++◌, length, Result, Ok, Err, refl, sym, ap, subst, ◌∙◌, append_assoc}
use Rattle.std.specs.List.{flat_map, AllByRecursion}
use Rattle.text_parts.specs.Reading.{Reading, ◌>>=◌, list_at}
use Rattle.text_parts.specs.Reads.{StartsOutside, Reads}
use Rattle.text_parts.specs.Texts.{IsTextOf}
use Rattle.text_parts.proofs.Laws.{Joins, bind, Follows, bind_reads}

-- ---- the same reading, written in another way

pub reads_same : {A : Type 0} {Spells : A → List ℕ → Type 0} {More : ℕ → Type 0} {read : Reading A} (other : Reading A) → Reads Spells More read → ((bytes : List ℕ) → other bytes ≡ read bytes) → Reads Spells More other
reads_same other laws same = record {
  found = λ bytes rest a e. laws.found bytes rest a (sym (same bytes) ∙ e);
  again = λ a text rest spelled outside. same (text ++ rest) ∙ laws.again a text rest spelled outside;
  stopped = λ bytes left e. laws.stopped bytes left (sym (same bytes) ∙ e);
  some_value = laws.some_value;
  some_text = laws.some_text;
  some_spelled = laws.some_spelled;
}

-- ---- a list, and what is read behind it

-- so many items, and then what goes on with them
list_then : {A C : Type 0} → ℕ → Reading A → (List A → Reading C) → Reading C
list_then zero item next bytes = next [] bytes
list_then (suc n) item next bytes = item bytes >>= λ x. list_then n item (λ xs. next (x.0 ∷ xs)) x.1

abbrev with_first : {A : Type 0} → A → Result (List A × List ℕ) ℕ → Result (List A × List ℕ) ℕ
with_first first others = others >>= λ xs. Ok (first ∷ xs.0, xs.1)

after_one : {A C : Type 0} (first : A) (others : Result (List A × List ℕ) ℕ) (next : List A → Reading C) → (with_first first others >>= λ xs. next xs.0 xs.1) ≡ (others >>= λ xs. next (first ∷ xs.0) xs.1)
after_one first (Ok x) next = refl
after_one first (Err left) next = refl

abbrev one_more : {A : Type 0} → ℕ → Reading A → Result (A × List ℕ) ℕ → Result (List A × List ℕ) ℕ
one_more n item r = r >>= λ first. with_first first.0 (list_at n item first.1)

after_item : {A C : Type 0} (n : ℕ) (item : Reading A) (next : List A → Reading C) (r : Result (A × List ℕ) ℕ)
    → ((x : A × List ℕ) → bind (list_at n item) (λ xs. next (x.0 ∷ xs)) x.1 ≡ list_then n item (λ xs. next (x.0 ∷ xs)) x.1)
    → (one_more n item r >>= λ xs. next xs.0 xs.1) ≡ (r >>= λ x. list_then n item (λ xs. next (x.0 ∷ xs)) x.1)
after_item n item next (Ok x) rest = after_one x.0 (list_at n item x.1) next ∙ rest x
after_item n item next (Err left) rest = refl

list_at_then : {A C : Type 0} (n : ℕ) (item : Reading A) (next : List A → Reading C) (bytes : List ℕ) → bind (list_at n item) next bytes ≡ list_then n item next bytes
unfolding list_at list_then
list_at_then zero item next bytes = refl
list_at_then (suc n) item next bytes = after_item n item next (item bytes) (λ x. list_at_then n item (λ xs. next (x.0 ∷ xs)) x.1)

abbrev pub IsListThen : {A C : Type 0} → ℕ → (A → List ℕ → Type 0) → (List A → C → List ℕ → Type 0) → C → List ℕ → Type 0
IsListThen zero Item Under c text = Under [] c text
IsListThen (suc n) Item Under c text = Joins Item (λ x. IsListThen n Item (λ xs. Under (x ∷ xs))) c text

abbrev pub Guards : {A : Type 0} → (ℕ → Type 0) → (A → List ℕ → Type 0) → Type 0
Guards {A = A} More Item = (a : A) (text rest : List ℕ) → Item a text → StartsOutside More (text ++ rest)

pub follows_list : {A C : Type 0} {Item : A → List ℕ → Type 0} {More : ℕ → Type 0} → Guards More Item → (n : ℕ) (Under : List A → C → List ℕ → Type 0) → Follows More Under → (c : C) (text rest : List ℕ) → IsListThen n Item Under c text → StartsOutside More (text ++ rest)
follows_list guards zero Under follows c text rest spelled = follows [] c text rest spelled
follows_list {More = More} guards (suc n) Under follows c text rest j =
    subst (StartsOutside More) (sym (ap (λ (x : List ℕ). x ++ rest) j.joined ∙ append_assoc j.first j.second rest)) (guards j.key j.first (j.second ++ rest) j.key_spelled)

list_then_reads : {A C : Type 0} {Item : A → List ℕ → Type 0} {More After : ℕ → Type 0} {item : Reading A} → Reads Item More item → Guards More Item → (n : ℕ) (Under : List A → C → List ℕ → Type 0) (next : List A → Reading C)
    → ((xs : List A) → Reads (Under xs) After (next xs)) → Follows More Under → Reads (IsListThen n Item Under) After (list_then n item next)
unfolding list_then
list_then_reads items guards zero Under next unders follows = unders []
list_then_reads items guards (suc n) Under next unders follows =
    bind_reads items (λ x. list_then_reads items guards n (λ xs. Under (x ∷ xs)) (λ xs. next (x ∷ xs)) (λ xs. unders (x ∷ xs)) (λ xs. follows (x ∷ xs)))
    (λ x. follows_list guards n (λ xs. Under (x ∷ xs)) (λ xs. follows (x ∷ xs)))

pub list_reads : {A C : Type 0} {Item : A → List ℕ → Type 0} {More After : ℕ → Type 0} {item : Reading A} → Reads Item More item → Guards More Item → (n : ℕ) (Under : List A → C → List ℕ → Type 0) (next : List A → Reading C)
    → ((xs : List A) → Reads (Under xs) After (next xs)) → Follows More Under → Reads (IsListThen n Item Under) After (bind (list_at n item) next)
list_reads {item = item} items guards n Under next unders follows =
    reads_same (bind (list_at n item) next) (list_then_reads items guards n Under next unders follows) (list_at_then n item next)

-- ---- the texts of the items, joined

pub record Listing {A C : Type 0} (Valid : A → Type 0) (f : A → List ℕ) (n : ℕ) (Under : List A → C → List ℕ → Type 0) (c : C) (text : List ℕ) : Type 0 where
  pub items : List A
  pub count : length items ≡ n
  pub valid : AllByRecursion Valid items
  pub behind : List ℕ
  pub under : Under items c behind
  pub joined : text ≡ flat_map f items ++ behind

pub listing : {A C : Type 0} {Item : A → List ℕ → Type 0} (Valid : A → Type 0) (f : A → List ℕ) → ((a : A) (text : List ℕ) → Item a text → IsTextOf Valid f a text)
    → (n : ℕ) (Under : List A → C → List ℕ → Type 0) (c : C) (text : List ℕ) → IsListThen n Item Under c text → Listing Valid f n Under c text
listing Valid f is zero Under c text spelled = record { items = []; count = refl; valid = tt; behind = text; under = spelled; joined = refl }
listing Valid f is (suc n) Under c text j =
    let one = is j.key j.first j.key_spelled in
    let others = listing Valid f is n (λ xs. Under (j.key ∷ xs)) c j.second j.spelled in
    record {
      items = j.key ∷ others.items;
      count = ap suc others.count;
      valid = (one.0, others.valid);
      behind = others.behind;
      under = others.under;
      joined = j.joined ∙ ap (λ (x : List ℕ). x ++ j.second) one.1 ∙ ap (λ (x : List ℕ). f j.key ++ x) others.joined ∙ sym (append_assoc (f j.key) (flat_map f others.items) others.behind);
    }

pub listed : {A C : Type 0} (Item : A → List ℕ → Type 0) (Valid : A → Type 0) (f : A → List ℕ) → ((a : A) → Valid a → Item a (f a))
    → (items : List A) (Under : List A → C → List ℕ → Type 0) (c : C) (behind : List ℕ) → AllByRecursion Valid items → Under items c behind → IsListThen (length items) Item Under c (flat_map f items ++ behind)
listed Item Valid f has [] Under c behind valid under = under
listed Item Valid f has (x ∷ items) Under c behind valid under = record {
  key = x;
  first = f x;
  second = flat_map f items ++ behind;
  key_spelled = has x valid.0;
  spelled = listed Item Valid f has items (λ xs. Under (x ∷ xs)) c behind valid.1 under;
  joined = append_assoc (f x) (flat_map f items) behind;
}
