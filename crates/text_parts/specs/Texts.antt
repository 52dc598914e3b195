-- The texts that others are made of, and which value each spells.
use Rattle.std.specs.Prelude.{◌≡◌, ℕ, ◌<◌, ◌≤◌, ◌^◌, List, ◌++◌, length, decimal, codes, ℤ, pos, negsuc}
use Rattle.std.specs.Fmt.{signed_decimal}
use Rattle.std.specs.List.{flat_map, AllByRecursion}

-- ---- texts

-- a number, and what ends it
abbrev pub ended_number : List ℕ → ℕ → List ℕ
ended_number end n = decimal n ++ end

-- a line with a word and the number of the items, and the items
abbrev pub counted_text : {A : Type 0} → List ℕ → (A → List ℕ) → List A → List ℕ
counted_text word item_text items =
    word ++ (ended_number (codes "\n") (length items) ++ flat_map item_text items)

-- ---- which texts spell a value

-- a word stands for nothing but itself
abbrev pub WordText : List ℕ → Unit {0} → List ℕ → Type 0
WordText word _ text = text ≡ word

-- the decimal digits of a number, without a leading zero
pub record NumberText (max n : ℕ) (text : List ℕ) : Type 0 where
  pub bounded : n ≤ max
  pub text_is : text ≡ decimal n

-- a number from -2^63 to 2^63 - 1
abbrev pub IsSigned64 : ℤ → Type 0
IsSigned64 (pos n) = n < 2 ^ 63
IsSigned64 (negsuc n) = n < 2 ^ 63

-- the decimal digits of a number, behind a minus where it is below 0
pub record SignedText (z : ℤ) (text : List ℕ) : Type 0 where
  pub bounded : IsSigned64 z
  pub text_is : text ≡ signed_decimal z

-- a decimal digit: what may go on behind a number
abbrev pub IsDigit : ℕ → Type 0
IsDigit b = (48 ≤ b) × (b ≤ 57)

-- each item is valid and has its one text
abbrev pub IsTextOf : {A : Type 0} → (A → Type 0) → (A → List ℕ) → A → List ℕ → Type 0
IsTextOf Valid f a text = Valid a × (text ≡ f a)

-- fewer than 2^64 items, each of them valid
abbrev pub AreItems : {A : Type 0} → (A → Type 0) → List A → Type 0
AreItems Valid items = (length items < 2 ^ 64) × AllByRecursion Valid items
