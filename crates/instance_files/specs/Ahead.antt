-- What a reader of lines has still to give.
use Rattle.std.specs.Prelude.{◌≡◌, ℕ, ◌<◌, ◌≤◌, List, [], ◌∷◌, length, drop, map, Option, Some, None, Result, Ok, Err}
use Rattle.instance_files.specs.Lines.{Row as FileRow, rows_from, end_from}
use Rattle.instance_files.specs.NextField.{fields_ahead, behind_line}
use Rattle.instance_files.specs.Kept.{kept, kept_row}
use Rattle.instance_files.specs.declared.lines.Line.{Line}
use Rattle.instance_files.specs.declared.lines.Row.{Row}
use Rattle.instance_files.specs.declared.lines.Next.{Next}
use Rattle.instance_files.specs.declared.lines.Next.TheVariants.{NextRow, End}
use Rattle.instance_files.specs.declared.table.FileFail.{FileFail}
use Rattle.instance_files.specs.declared.table.FileFail.TheVariants.{Refused}
use Rattle.instance_files.specs.declared.values.FileCause.TheVariants.{Head}

-- the rows that are left, each with the fields that are kept, and the number behind that of the file's last line
pub record Ahead : Type 0 where
  pub rows : List FileRow
  pub end : ℕ

unfoldable pub ahead : ℕ → List ℕ → Ahead
ahead number bytes = record { rows = map kept_row (rows_from number bytes); end = end_from number bytes }

abbrev pub row_of : Row → FileRow
row_of row = record { line = row.line; fields = row.fields }

-- what stands behind the first line feed, or nothing
abbrev pub rest_behind : Option (List ℕ) → List ℕ
rest_behind None = []
rest_behind (Some bytes) = bytes

-- the fields of a line that are kept, and the place behind the line
pub record IsLineAt (bytes : List ℕ) (from : ℕ) (line : Line) : Type 0 where
  pub fields : line.fields ≡ kept (fields_ahead (drop from bytes))
  pub rest : drop line.next bytes ≡ rest_behind (behind_line (drop from bytes))
  pub within : line.next ≤ length bytes
  pub past : from < length bytes → from < line.next

-- the next row, or where none is left the number behind that of the last line
abbrev pub Gives : Ahead → Ahead → Next → Type 0
Gives before now (NextRow row) = (before.rows ≡ row_of row ∷ now.rows) × (before.end ≡ now.end)
Gives before now (End line) = (before.rows ≡ []) × (before.end ≡ line)

-- the next row as a line of the head, which is refused where none is left
abbrev pub GivesHead : Ahead → Ahead → Result Row FileFail → Type 0
GivesHead before now (Ok row) = Gives before now (NextRow row)
GivesHead before now (Err fail) = (before.rows ≡ []) × (fail ≡ Refused before.end Head)
