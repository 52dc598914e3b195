-- Sequences of parts, and a number with what ends it.
use Rattle.std.proofs.Common.{◌≡◌, ℕ, ◌^◌, ◌<◌, ◌≤◌, List, [], ◌∷◌, ◌++◌, refl, sym, ap, subst, ◌∙◌, arith}
use Rattle.std.specs.Prelude.{decimal, codes}
use Rattle.std.proofs.lemmas.List.{append-nil}
use Rattle.text_parts.specs.Reading.{Reading, ended_number_at}
use Rattle.text_parts.specs.Reads.{StartsOutside, Reads, NoByte}
use Rattle.text_parts.specs.Texts.{ended_number, WordText, NumberText, IsDigit, IsTextOf}
use Rattle.text_parts.proofs.Laws.{Joins, Follows, bind_reads}
use Rattle.text_parts.proofs.Parts.{word_reads, IsNothing, nothing_reads}
use Rattle.text_parts.proofs.Numbers.{number_reads, respelled}

-- ---- what sequences are made of

pub free : {A C : Type 0} (Under : A → C → List ℕ → Type 0) → Follows NoByte Under
free Under a c text rest p b behind e none = none

-- a text in two parts, each of which is another
pub both : {t a a' b b' : List ℕ} → t ≡ a ++ b → a ≡ a' → b ≡ b' → t ≡ a' ++ b'
both {a' = a'} {b = b} joined first second = joined ∙ ap (λ (x : List ℕ). x ++ b) first ∙ ap (λ (x : List ℕ). a' ++ x) second

-- a reading whose spellings are the texts of the valid values
pub texts_read : {A : Type 0} {Was : A → List ℕ → Type 0} {More : ℕ → Type 0} {read : Reading A} (Valid : A → Type 0) (f : A → List ℕ) → Reads Was More read
    → ((a : A) (text : List ℕ) → Was a text → IsTextOf Valid f a text) → ((a : A) → Valid a → Was a (f a)) → Reads (IsTextOf Valid f) More read
texts_read {Was = Was} Valid f laws text_of spell = respelled (IsTextOf Valid f) laws text_of (λ a text p. subst (Was a) (sym p.1) (spell a p.0))

pub join : {A C : Type 0} {Key : A → List ℕ → Type 0} {Under : A → C → List ℕ → Type 0} {c : C} (k : A) (t u : List ℕ) → Key k t → Under k c u → Joins Key Under c (t ++ u)
join k t u p q = record { key = k; first = t; second = u; key_spelled = p; spelled = q; joined = refl }

-- a last word, and the value that was made before
pub last_word : {C : Type 0} (end : List ℕ) (value : C) → Joins (WordText end) (λ _. IsNothing value) value end
last_word end value = record { key = tt; first = end; second = []; key_spelled = refl; spelled = (refl, refl); joined = sym (append-nil end) }

pub last_word_is : {C : Type 0} (end : List ℕ) (value c : C) (text : List ℕ) → Joins (WordText end) (λ _. IsNothing value) c text → (c ≡ value) × (text ≡ end)
last_word_is end value c text j =
    (j.spelled.0, j.joined ∙ ap (λ (x : List ℕ). x ++ j.second) j.key_spelled ∙ ap (λ (x : List ℕ). end ++ x) j.spelled.1 ∙ append-nil end)

-- a text that begins with a word begins with no digit, where the word's first byte is none
pub word_guards : {C : Type 0} (b : ℕ) (word : List ℕ) (Under : C → List ℕ → Type 0) → (IsDigit b → ⊥) → (c : C) (text rest : List ℕ) → Joins (WordText (b ∷ word)) (λ _. Under) c text → StartsOutside IsDigit (text ++ rest)
word_guards b word Under other c text rest j d behind e digit =
    let front : text ++ rest ≡ b ∷ ((word ++ j.second) ++ rest) = ap (λ (x : List ℕ). x ++ rest) (j.joined ∙ ap (λ (x : List ℕ). x ++ j.second) j.key_spelled) in
    let same : d ≡ b = cc in
    other (subst IsDigit same digit)

pub not_digit_10 : IsDigit 10 → ⊥
not_digit_10 d = omega arith

pub not_digit_32 : IsDigit 32 → ⊥
not_digit_32 d = omega arith

-- ---- a number and what ends it

abbrev pub AtMost : ℕ → ℕ → Type 0
AtMost max n = n ≤ max

abbrev EndedSpelled : ℕ → List ℕ → ℕ → List ℕ → Type 0
EndedSpelled max end = Joins (NumberText max) (λ n. Joins (WordText end) (λ _. IsNothing n))

ended_text_of : (max : ℕ) (end : List ℕ) (n : ℕ) (text : List ℕ) → EndedSpelled max end n text → IsTextOf (AtMost max) (ended_number end) n text
ended_text_of max end n text j =
    let last = last_word_is end j.key n j.second j.spelled in
    let made : IsTextOf (AtMost max) (ended_number end) j.key text =
    (j.key_spelled.bounded, j.joined ∙ ap (λ (x : List ℕ). x ++ j.second) j.key_spelled.text_is ∙ ap (λ (x : List ℕ). decimal j.key ++ x) last.1) in
    subst (λ (m : ℕ). IsTextOf (AtMost max) (ended_number end) m text) (sym last.0) made

pub ended_reads : (max : ℕ) (b : ℕ) (end : List ℕ) → max < 2 ^ 64 → (IsDigit b → ⊥) → Reads (IsTextOf (AtMost max) (ended_number (b ∷ end))) NoByte (ended_number_at max (b ∷ end))
unfolding ended_number_at
ended_reads max b end small other =
    texts_read (AtMost max) (ended_number (b ∷ end))
    (bind_reads (number_reads max small) (λ n. bind_reads (word_reads (b ∷ end)) (λ _. nothing_reads NoByte n) (free _)) (λ n. word_guards b end (IsNothing n) other))
    (ended_text_of max (b ∷ end))
    (λ n le. join n (decimal n) (b ∷ end) record { bounded = le; text_is = refl } (last_word (b ∷ end) n))

pub spaced_reads : (max : ℕ) → max < 2 ^ 64 → Reads (IsTextOf (AtMost max) (ended_number (codes " "))) NoByte (ended_number_at max (codes " "))
spaced_reads max small = ended_reads max 32 [] small not_digit_32

pub lined_reads : (max : ℕ) → max < 2 ^ 64 → Reads (IsTextOf (AtMost max) (ended_number (codes "\n"))) NoByte (ended_number_at max (codes "\n"))
lined_reads max small = ended_reads max 10 [] small not_digit_10

abbrev pub Spaced : ℕ → ℕ → List ℕ → Type 0
Spaced max = IsTextOf (AtMost max) (ended_number (codes " "))

abbrev pub Lined : ℕ → ℕ → List ℕ → Type 0
Lined max = IsTextOf (AtMost max) (ended_number (codes "\n"))
