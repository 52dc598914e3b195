-- Reading from left to right, as a function of the bytes.
use Rattle.std.specs.Prelude.{ℕ, zero, suc, ◌+◌, ◌-◌, ◌*◌, ◌^◌, ◌&&◌, List, [], ◌∷◌, length, codes, Option, Some, None, Result, Ok, Err, nat_le, min, ◌==◌, if◌then◌else◌, ℤ, pos, negsuc}
use Rattle.std.specs.Int.{is_in_range}

-- What stands at the front of the bytes, with the bytes behind it, or how many bytes are left at the stop.
abbrev pub Reading : Type 0 → Type 0
Reading A = List ℕ → Result (A × List ℕ) ℕ

infixl 10 ◌>>=◌
abbrev pub ◌>>=◌ : {A B : Type 0} → Result A ℕ → (A → Result B ℕ) → Result B ℕ
(Ok x) >>= f = f x
(Err left) >>= f = Err left

-- the bytes of a word
unfoldable pub word_at : List ℕ → List ℕ → Result (Unit {0} × List ℕ) ℕ
word_at [] bytes = Ok (tt, bytes)
word_at (w ∷ word) [] = Err 0
word_at (w ∷ word) (b ∷ bytes) = if b == w then word_at word bytes else Err (suc (length bytes))

-- what stands behind this byte
abbrev pub behind_byte : ℕ → List ℕ → Option (List ℕ)
behind_byte first [] = None
behind_byte first (b ∷ bytes) = if b == first then Some bytes else None

-- behind this byte the first reading, at any other the second
abbrev pub on_byte : {A : Type 0} → ℕ → Reading A → Reading A → Reading A
on_byte first there other [] = Err 0
on_byte first there other (b ∷ bytes) = if b == first then there bytes else other (b ∷ bytes)

abbrev pub mapped : {A B : Type 0} → (A → B) → Reading A → Reading B
mapped f read bytes = read bytes >>= λ x. Ok (f x.0, x.1)

-- the digits behind n, as long as the number is at most max
unfoldable pub digits_after : ℕ → ℕ → List ℕ → ℕ × List ℕ
digits_after max n [] = (n, [])
digits_after max n (b ∷ bytes) =
    if is_in_range 48 57 b && nat_le (10 * n + (b - 48)) max then digits_after max (10 * n + (b - 48)) bytes
    else (n, b ∷ bytes)

-- a number from 1 to max
unfoldable pub positive_at : ℕ → List ℕ → Result (ℕ × List ℕ) ℕ
positive_at max [] = Err 0
positive_at max (b ∷ bytes) =
    if is_in_range 49 57 b && nat_le (b - 48) max then Ok (digits_after max (b - 48) bytes)
    else Err (suc (length bytes))

-- a number from 0 to max
unfoldable pub number_at : ℕ → List ℕ → Result (ℕ × List ℕ) ℕ
number_at max bytes = on_byte 48 (λ rest. Ok (0, rest)) (positive_at max) bytes

-- a number of 64 bits with a sign
unfoldable pub signed_at : List ℕ → Result (ℤ × List ℕ) ℕ
signed_at bytes =
    on_byte 45 (mapped (λ n. negsuc (n - 1)) (positive_at (2 ^ 63))) (mapped pos (number_at (2 ^ 63 - 1))) bytes

-- the first word where it stands, else the others; where none stands, the stop that is farthest on
abbrev pub or_else : {K : Type 0} → K → Result (Unit {0} × List ℕ) ℕ → Result (K × List ℕ) ℕ → Result (K × List ℕ) ℕ
or_else k (Ok x) others = Ok (k, x.1)
or_else k (Err left) (Ok x) = Ok x
or_else k (Err left) (Err least) = Err (min left least)

-- the first of the words that stands there; else the stop that is farthest on
unfoldable pub one_of : {K : Type 0} → (K → List ℕ) → List K → List ℕ → Result (K × List ℕ) ℕ
one_of word [] bytes = Err (length bytes)
one_of word (k ∷ ks) bytes = or_else k (word_at (word k) bytes) (one_of word ks bytes)

-- so many items, one behind the other
unfoldable pub list_at : {A : Type 0} → ℕ → Reading A → List ℕ → Result (List A × List ℕ) ℕ
list_at zero item bytes = Ok ([], bytes)
list_at (suc n) item bytes = do
  first ← item bytes
  others ← list_at n item first.1
  Ok (first.0 ∷ others.0, others.1)

abbrev pub U64 : ℕ
U64 = 2 ^ 64 - 1

abbrev pub U32 : ℕ
U32 = 2 ^ 32 - 1

-- a number, and what ends it
unfoldable pub ended_number_at : ℕ → List ℕ → List ℕ → Result (ℕ × List ℕ) ℕ
ended_number_at max end bytes = do
  n ← number_at max bytes
  rest ← word_at end n.1
  Ok (n.0, rest.1)

-- a line with a word and a number, and that many items
unfoldable pub counted_at : {A : Type 0} → List ℕ → Reading A → List ℕ → Result (List A × List ℕ) ℕ
counted_at word item bytes = do
  first ← word_at word bytes
  count ← ended_number_at U64 (codes "\n") first.1
  items ← list_at count.0 item count.1
  Ok (items.0, items.1)
