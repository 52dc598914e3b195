-- The laws of the readings that every other is made of.
use Rattle.std.specs.Prelude.{ℕ, ◌<◌, ◌^◌, List}
use Rattle.text_parts.specs.Reading.{word_at, number_at, signed_at}
use Rattle.text_parts.specs.Reads.{Reads, NoByte}
use Rattle.text_parts.specs.Texts.{WordText, NumberText, SignedText, IsDigit}

-- a word is read exactly
abbrev pub WordsAreRead : Type 0
WordsAreRead = (word : List ℕ) → Reads (WordText word) NoByte (word_at word)

-- a number up to a greatest one is read exactly: the longest that stands there
abbrev pub NumbersAreRead : Type 0
NumbersAreRead = (max : ℕ) → max < 2 ^ 64 → Reads (NumberText max) IsDigit (number_at max)

-- a number of 64 bits with a sign is read exactly: the longest that stands there
abbrev pub SignedNumbersAreRead : Type 0
SignedNumbersAreRead = Reads SignedText IsDigit signed_at
