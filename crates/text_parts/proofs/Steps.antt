-- The steps of the loops that read a word and the digits of a number.
use Rattle.std.proofs.Common.{◌≡◌, ℕ, ◌+◌, ◌-◌, ◌*◌, ◌<◌, ◌≤◌, ◌^◌, ◌&&◌, eqb, suc, pos, negsuc, List, [], ◌∷◌, length, drop, get_or, Result, Ok, Err, Option, Some, None, cond, Bool, true, false, refl, sym, ap, ◌∙◌}
use Rattle.std.specs.Prelude.{nat_le}
use Rattle.std.specs.Int.{is_in_range}
use Rattle.std.proofs.lemmas.Bool.{eq-eqb, ne_eqb}
use Rattle.std.proofs.lemmas.List.{drop_more, drop_all}
use Rattle.text_parts.specs.Reading.{Reading, behind_byte, on_byte, mapped, word_at, digits_after, positive_at, number_at, signed_at}

word_more : (text : List ℕ) (i : ℕ) (bytes : List ℕ) → i < length text → word_at (drop i text) bytes ≡ word_at (get_or text i 0 ∷ drop (i + 1) text) bytes
word_more text i bytes lt = ap (λ (x : List ℕ). word_at x bytes) (drop_more text i 0 lt)

pub word_at_end : (text : List ℕ) (i : ℕ) (bytes : List ℕ) → i < length text → bytes ≡ [] → word_at (drop i text) bytes ≡ Err 0
unfolding word_at
word_at_end text i bytes lt e = word_more text i bytes lt ∙ rw e refl

pub word_at_other : (text : List ℕ) (i : ℕ) (b : ℕ) (bytes behind : List ℕ) → i < length text → bytes ≡ b ∷ behind → (b ≡ get_or text i 0 → ⊥) → word_at (drop i text) bytes ≡ Err (length bytes)
unfolding word_at
word_at_other text i b bytes behind lt e differ = word_more text i bytes lt ∙ rw (e, ne_eqb b (get_or text i 0) differ) refl

pub word_at_same : (text : List ℕ) (i : ℕ) (b : ℕ) (bytes behind : List ℕ) → i < length text → bytes ≡ b ∷ behind → b ≡ get_or text i 0 → word_at (drop i text) bytes ≡ word_at (drop (i + 1) text) behind
unfolding word_at
word_at_same text i b bytes behind lt e same = word_more text i bytes lt ∙ rw (e, eq-eqb b (get_or text i 0) same) refl

pub word_at_all : (text : List ℕ) (i : ℕ) (bytes : List ℕ) → length text ≤ i → word_at (drop i text) bytes ≡ Ok (tt, bytes)
unfolding word_at
word_at_all text i bytes le = rw (drop_all i text le) refl

-- one more digit, or none
abbrev pub longer : ℕ → ℕ → ℕ → Option ℕ
longer number b max = cond (is_in_range 48 57 b && nat_le (10 * number + (b - 48)) max) (Some (10 * number + (b - 48))) None

pub digits_more : (max n b next : ℕ) (bytes behind : List ℕ) → bytes ≡ b ∷ behind → longer n b max ≡ Some next → digits_after max n bytes ≡ digits_after max next behind
unfolding digits_after
digits_more max n b next bytes behind e l = ap (digits_after max n) e ∙ by_test (is_in_range 48 57 b && nat_le (10 * n + (b - 48)) max) l
  where
    by_test : (t : Bool) → cond t (Some (10 * n + (b - 48))) None ≡ Some next → cond t (digits_after max (10 * n + (b - 48)) behind) (n, b ∷ behind) ≡ digits_after max next behind
    by_test true h = let same : 10 * n + (b - 48) ≡ next = cc in ap (λ (x : ℕ). digits_after max x behind) same
    by_test false h = absurd cc

pub digits_stop : (max n b : ℕ) (bytes behind : List ℕ) → bytes ≡ b ∷ behind → longer n b max ≡ None → digits_after max n bytes ≡ (n, bytes)
unfolding digits_after
digits_stop max n b bytes behind e l = ap (digits_after max n) e ∙ by_test (is_in_range 48 57 b && nat_le (10 * n + (b - 48)) max) l ∙ ap (λ (x : List ℕ). (n, x)) (sym e)
  where
    by_test : (t : Bool) → cond t (Some (10 * n + (b - 48))) None ≡ None → cond t (digits_after max (10 * n + (b - 48)) behind) (n, b ∷ behind) ≡ (n, b ∷ behind)
    by_test true h = absurd cc
    by_test false h = refl

pub digits_end : (max n : ℕ) (bytes : List ℕ) → bytes ≡ [] → digits_after max n bytes ≡ (n, bytes)
unfolding digits_after
digits_end max n bytes e = rw e refl

-- the first digit of a number that isn't 0, or none
abbrev pub starting : ℕ → ℕ → Option ℕ
starting b max = cond (is_in_range 49 57 b && nat_le (b - 48) max) (Some (b - 48)) None

pub positive_nothing : (max : ℕ) (bytes : List ℕ) → bytes ≡ [] → positive_at max bytes ≡ Err 0
unfolding positive_at
positive_nothing max bytes e = rw e refl

pub positive_other : (max b : ℕ) (bytes behind : List ℕ) → bytes ≡ b ∷ behind → starting b max ≡ None → positive_at max bytes ≡ Err (length bytes)
unfolding positive_at
positive_other max b bytes behind e l = ap (positive_at max) e ∙ by_test (is_in_range 49 57 b && nat_le (b - 48) max) l ∙ ap (λ (x : List ℕ). Err (length x)) (sym e)
  where
    by_test : (t : Bool) → cond t (Some (b - 48)) None ≡ None → cond t (Ok (digits_after max (b - 48) behind)) (Err (suc (length behind))) ≡ Err (suc (length behind))
    by_test true h = absurd cc
    by_test false h = refl

pub positive_first : (max b first : ℕ) (bytes behind : List ℕ) → bytes ≡ b ∷ behind → starting b max ≡ Some first → positive_at max bytes ≡ Ok (digits_after max first behind)
unfolding positive_at
positive_first max b first bytes behind e l = ap (positive_at max) e ∙ by_test (is_in_range 49 57 b && nat_le (b - 48) max) l
  where
    by_test : (t : Bool) → cond t (Some (b - 48)) None ≡ Some first → cond t (Ok (digits_after max (b - 48) behind)) (Err (suc (length behind))) ≡ Ok (digits_after max first behind)
    by_test true h = let same : b - 48 ≡ first = cc in ap (λ (x : ℕ). Ok (digits_after max x behind)) same
    by_test false h = absurd cc

pub on_byte_there : {A : Type 0} (first : ℕ) (there other : Reading A) (bytes rest : List ℕ) → behind_byte first bytes ≡ Some rest → on_byte first there other bytes ≡ there rest
on_byte_there first there other [] rest e = absurd cc
on_byte_there first there other (b ∷ bytes) rest e = by_test (eqb b first) e
  where
    by_test : (t : Bool) → cond t (Some bytes) None ≡ Some rest → cond t (there bytes) (other (b ∷ bytes)) ≡ there rest
    by_test true h = let same : bytes ≡ rest = cc in ap there same
    by_test false h = absurd cc

pub on_byte_other : {A : Type 0} (first : ℕ) (there other : Reading A) (bytes : List ℕ) → behind_byte first bytes ≡ None → other [] ≡ Err 0 → on_byte first there other bytes ≡ other bytes
on_byte_other first there other [] e nothing = sym nothing
on_byte_other first there other (b ∷ bytes) e nothing = by_test (eqb b first) e
  where
    by_test : (t : Bool) → cond t (Some bytes) None ≡ None → cond t (there bytes) (other (b ∷ bytes)) ≡ other (b ∷ bytes)
    by_test true h = absurd cc
    by_test false h = refl

pub number_zero : (max : ℕ) (bytes rest : List ℕ) → behind_byte 48 bytes ≡ Some rest → number_at max bytes ≡ Ok (0, rest)
unfolding number_at
number_zero max bytes rest e = on_byte_there 48 (λ rest. Ok (0, rest)) (positive_at max) bytes rest e

pub number_other : (max : ℕ) (bytes : List ℕ) → behind_byte 48 bytes ≡ None → number_at max bytes ≡ positive_at max bytes
unfolding number_at
number_other max bytes e = on_byte_other 48 (λ rest. Ok (0, rest)) (positive_at max) bytes e (positive_nothing max [] refl)

pub signed_minus : (bytes rest : List ℕ) → behind_byte 45 bytes ≡ Some rest → signed_at bytes ≡ mapped (λ n. negsuc (n - 1)) (positive_at (2 ^ 63)) rest
unfolding signed_at
signed_minus bytes rest e = on_byte_there 45 (mapped (λ n. negsuc (n - 1)) (positive_at (2 ^ 63))) (mapped pos (number_at (2 ^ 63 - 1))) bytes rest e

pub signed_plus : (bytes : List ℕ) → behind_byte 45 bytes ≡ None → signed_at bytes ≡ mapped pos (number_at (2 ^ 63 - 1)) bytes
unfolding signed_at
signed_plus bytes e =
    on_byte_other 45 (mapped (λ n. negsuc (n - 1)) (positive_at (2 ^ 63))) (mapped pos (number_at (2 ^ 63 - 1))) bytes e (nothing_there (number_at (2 ^ 63 - 1) []) (number_other (2 ^ 63 - 1) [] refl ∙ positive_nothing (2 ^ 63 - 1) [] refl))
  where
    nothing_there : (r : Result (ℕ × List ℕ) ℕ) → r ≡ Err 0 → mapped pos (λ (_ : List ℕ). r) [] ≡ Err 0
    nothing_there r e = rw e refl
