-- The rows of a file as places, and the refusal that comes first.
use Rattle.std.specs.Prelude.{◌≡◌, ℕ, ◌+◌, ◌≤◌, List, [], ◌∷◌, length, nat_lt, if◌then◌else◌, slice_index_or, Result, Ok, Err, Option, None, Some}
use Rattle.orienteering.specs.Instance.{Problem}
use Rattle.orienteering.specs.Limits.{most_members}
use Rattle.orienteering.specs.declared.Place.{Place}
use Rattle.instance_files.specs.Lines.{Row}
use Rattle.instance_files.specs.Values.{◌>>=◌, number_of, count_of}
use Rattle.instance_files.specs.declared.values.FileCause.{FileCause}
use Rattle.instance_files.specs.declared.values.FileCause.TheVariants.{Head, RowCount}
use Rattle.instance_files.specs.declared.table.FileFail.{FileFail}
use Rattle.instance_files.specs.declared.table.FileFail.TheVariants.{Refused, Memory}

-- the line that is refused, and why
pub record Refusal : Type 0 where
  pub line : ℕ
  pub cause : FileCause

abbrev pub refusal : ℕ → FileCause → Refusal
refusal line cause = record { line = line; cause = cause }

abbrev pub at_line : {A : Type 0} → ℕ → Result A FileCause → Result A Refusal
at_line line (Ok x) = Ok x
at_line line (Err cause) = Err (refusal line cause)

abbrev pub field_at : List (List ℕ) → ℕ → List ℕ
field_at fields place = slice_index_or fields place []

-- what the next row says, and the rows behind it; where no row is left, a head is missing
unfoldable pub head_line : {A : Type 0} → (List (List ℕ) → Result A FileCause) → ℕ → List Row → Result (A × List Row) Refusal
head_line read end [] = Err (refusal end Head)
head_line read end (row ∷ rows) = do
  x ← at_line row.line (read row.fields)
  Ok (x, rows)

-- how a row is read, by its number from 0 and its fields
abbrev pub RowReading : Type 0
RowReading = ℕ → List (List ℕ) → Result Place FileCause

-- the places of the rows, the first of which has this number
unfoldable pub places_of : RowReading → ℕ → List Row → Result (List Place) Refusal
places_of read number [] = Ok []
places_of read number (row ∷ rows) = do
  place ← at_line row.line (read number row.fields)
  others ← places_of read (number + 1) rows
  Ok (place ∷ others)

-- at least so many places; where rows are missing, the number behind that of the last line is told
abbrev pub enough : ℕ → ℕ → List Place → Result (List Place) Refusal
enough least end places = if nat_lt (length places) least then Err (refusal end RowCount) else Ok places

abbrev pub problem : ℕ → ℕ → List Place → Problem
problem scale team places = record { scale = scale; team = team; sites = places }

-- the number of tours that is given, or else that of the field, which is read as a number in any case
abbrev pub tours_of : Option ℕ → List ℕ → Result ℕ FileCause
tours_of None field = count_of field
tours_of (Some team) field = number_of field >>= λ number. Ok team

-- a given team is within its limits
abbrev pub IsTeam : Option ℕ → Type 0
IsTeam None = Unit {0}
IsTeam (Some size) = (1 ≤ size) × (size ≤ most_members)

-- the failure is the refusal that the definition gives; want of memory says nothing
abbrev pub IsFirstRefusal : {B : Type 0} → Result B Refusal → FileFail → Type 0
IsFirstRefusal wanted (Refused line cause) = wanted ≡ Err (refusal line cause)
IsFirstRefusal wanted Memory = Unit {0}

-- the answer is what the definition gives; want of memory says nothing
abbrev pub Answers : {A B : Type 0} → (A → B) → Result B Refusal → Result A FileFail → Type 0
Answers f wanted (Ok x) = wanted ≡ Ok (f x)
Answers f wanted (Err fail) = IsFirstRefusal wanted fail
