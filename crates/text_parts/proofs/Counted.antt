-- A line with a word and a number, and that many items.
use Rattle.std.proofs.Common.{ℕ, List, [], length, Ok, refl, sym, ap, subst, ◌∙◌, arith}
use Rattle.std.specs.Prelude.{codes}
use Rattle.std.specs.List.{flat_map}
use Rattle.std.proofs.lemmas.List.{append-nil}
use Rattle.text_parts.specs.Reading.{Reading, U64, counted_at}
use Rattle.text_parts.specs.Reads.{Reads, NoByte}
use Rattle.text_parts.specs.Texts.{ended_number, counted_text, WordText, IsTextOf, AreItems}
use Rattle.text_parts.proofs.Laws.{Joins, bind_reads}
use Rattle.text_parts.proofs.Parts.{word_reads, IsNothing, nothing_reads}
use Rattle.text_parts.proofs.Lists.{IsListThen, list_reads, listing, listed}
use Rattle.text_parts.proofs.Sequences.{free, both, texts_read, join, Lined, lined_reads}

abbrev CountedSpelled : {A : Type 0} → (A → Type 0) → (A → List ℕ) → List ℕ → List A → List ℕ → Type 0
CountedSpelled {A = A} Valid f word = Joins (WordText word) (λ _. Joins (Lined U64) (λ count. IsListThen count (IsTextOf Valid f) (λ (xs : List A). IsNothing xs)))

counted_text_of : {A : Type 0} (Valid : A → Type 0) (f : A → List ℕ) (word : List ℕ) (items : List A) (text : List ℕ) → CountedSpelled Valid f word items text → IsTextOf (AreItems Valid) (counted_text word f) items text
counted_text_of {A = A} Valid f word items text j =
    let count = j.spelled in
    let l = listing {Item = IsTextOf Valid f} Valid f (λ a t p. p) count.key (λ (xs : List A). IsNothing xs) items count.second count.spelled in
    let made : IsTextOf (AreItems Valid) (counted_text word f) l.items text = (
      (omega (arith, l.count, count.key_spelled.0), l.valid),
      both j.joined j.key_spelled (both count.joined (count.key_spelled.1 ∙ ap (ended_number (codes "\n")) (sym l.count)) (both l.joined refl l.under.1 ∙ append-nil (flat_map f l.items))),
    ) in
    subst (λ (x : List A). IsTextOf (AreItems Valid) (counted_text word f) x text) (sym l.under.0) made

counted_spelled : {A : Type 0} (Valid : A → Type 0) (f : A → List ℕ) (word : List ℕ) (items : List A) → AreItems Valid items → CountedSpelled Valid f word items (counted_text word f items)
counted_spelled {A = A} Valid f word items p =
    join tt word _ refl
    (join (length items) (ended_number (codes "\n") (length items)) (flat_map f items) (omega (arith, p.0), refl)
    (subst (IsListThen (length items) (IsTextOf Valid f) (λ (xs : List A). IsNothing xs) items) (append-nil (flat_map f items))
    (listed (IsTextOf Valid f) Valid f (λ a v. (v, refl)) items (λ (xs : List A). IsNothing xs) items [] p.1 (refl, refl))))

pub counted_reads : {A : Type 0} {item : Reading A} (Valid : A → Type 0) (f : A → List ℕ) (word : List ℕ) → Reads (IsTextOf Valid f) NoByte item → Reads (IsTextOf (AreItems Valid) (counted_text word f)) NoByte (counted_at word item)
unfolding counted_at
counted_reads {A = A} Valid f word items =
    texts_read (AreItems Valid) (counted_text word f)
    (bind_reads (word_reads word)
    (λ _. bind_reads (lined_reads U64 (omega arith))
    (λ count. list_reads items (λ a text rest p b behind e none. none) count (λ (xs : List A). IsNothing xs) (λ xs bytes. Ok (xs, bytes)) (λ xs. nothing_reads NoByte xs) (free _))
    (free _))
    (free _))
    (counted_text_of Valid f word) (counted_spelled Valid f word)
