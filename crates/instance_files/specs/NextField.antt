-- The first field of the rest of a line.
use Rattle.std.specs.Prelude.{◌≡◌, ℕ, ◌<◌, ◌≤◌, List, [], ◌∷◌, length, drop, Option, Some, None, if◌then◌else◌}
use Rattle.std.specs.List.{slice_range, AllPass}
use Rattle.instance_files.specs.Lines.{is_blank, is_line_feed, without_return, fields}
use Rattle.instance_files.specs.declared.field.Field.{Field}
use Rattle.instance_files.specs.declared.field.Field.TheVariants.{Found, LineEnd, FileEnd}

-- the bytes before the first line feed
abbrev pub first_line : List ℕ → List ℕ
first_line [] = []
first_line (b ∷ bytes) = if is_line_feed b then [] else b ∷ first_line bytes

-- the bytes behind the first line feed, where there is one
abbrev pub behind_line : List ℕ → Option (List ℕ)
behind_line [] = None
behind_line (b ∷ bytes) = if is_line_feed b then Some bytes else behind_line bytes

-- the line in which the bytes begin
abbrev pub line_ahead : List ℕ → List ℕ
line_ahead bytes = without_return (first_line bytes)

-- the fields of this line
unfoldable pub fields_ahead : List ℕ → List (List ℕ)
fields_ahead bytes = fields (line_ahead bytes)

-- the place of a field, its bytes, and what is left of the line behind it
pub record IsFieldAt (bytes : List ℕ) (from start end : ℕ) : Type 0 where
  pub behind : from ≤ start
  pub some : start < end
  pub within : end ≤ length bytes
  pub blanks : AllPass is_blank (slice_range bytes from start)
  pub first : fields_ahead (drop from bytes) ≡ slice_range bytes start end ∷ fields_ahead (drop end bytes)
  pub same_line : behind_line (drop from bytes) ≡ behind_line (drop end bytes)

-- no field is left in the line, and this is the place behind its line feed
pub record IsLineEndAt (bytes : List ℕ) (from next : ℕ) : Type 0 where
  pub none : fields_ahead (drop from bytes) ≡ []
  pub behind : behind_line (drop from bytes) ≡ Some (drop next bytes)
  pub past : from < next
  pub within : next ≤ length bytes

-- no field is left in the line, and no line feed either
pub record IsFileEnd (bytes : List ℕ) (from : ℕ) : Type 0 where
  pub none : fields_ahead (drop from bytes) ≡ []
  pub last : behind_line (drop from bytes) ≡ None

-- what stands first in the rest of the line
abbrev pub IsNextField : List ℕ → ℕ → Field → Type 0
IsNextField bytes from (Found start end) = IsFieldAt bytes from start end
IsNextField bytes from (LineEnd next) = IsLineEndAt bytes from next
IsNextField bytes from FileEnd = IsFileEnd bytes from
