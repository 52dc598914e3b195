-- Files of the TOP profile.
use Rattle.std.specs.Prelude.{ℕ, ◌+◌, ◌/◌, ◌&&◌, ◌||◌, not, List, length, unsigned_abs, nat_lt, nat_le, Result, Ok, Err, Option, codes, ◌==◌, if◌then◌else◌}
use Rattle.std.specs.Str.{bytes_eq}
use Rattle.orienteering.specs.Instance.{Problem}
use Rattle.orienteering.specs.declared.Place.{Place}
use Rattle.fixed_num.specs.declared.decimal.Decimal.{Decimal}
use Rattle.instance_files.specs.Lines.{Row}
use Rattle.instance_files.specs.Values.{◌>>=◌, number_of, value_of, is_negative}
use Rattle.instance_files.specs.Rows.{Refusal, field_at, head_line, places_of, tours_of, enough, problem}
use Rattle.instance_files.specs.Op.{plain_place}
use Rattle.instance_files.specs.declared.values.FileCause.{FileCause}
use Rattle.instance_files.specs.declared.values.FileCause.TheVariants.{Head, TooMany, RowCount}

-- the field behind this word, where the line has just the two
unfoldable pub field_behind : List ℕ → List (List ℕ) → Result (List ℕ) FileCause
field_behind word fields =
    if (length fields == 2) && bytes_eq (field_at fields 0) word then Ok (field_at fields 1) else Err Head

-- a whole number of rows, at least 2 and at most 302
abbrev pub row_count : Decimal → Result ℕ FileCause
row_count d =
    if not d.whole || is_negative d.tenk || nat_lt (unsigned_abs d.tenk) 20000 then Err Head
    else if nat_lt 3020000 (unsigned_abs d.tenk) then Err TooMany
    else Ok (unsigned_abs d.tenk / 10000)

unfoldable pub top_count : List (List ℕ) → Result ℕ FileCause
top_count fields = do
  field ← field_behind (codes "n") fields
  d ← number_of field
  row_count d

unfoldable pub top_team : Option ℕ → List (List ℕ) → Result ℕ FileCause
top_team team fields = do
  field ← field_behind (codes "m") fields
  tours_of team field

unfoldable pub top_limit : ℕ → List (List ℕ) → Result ℕ FileCause
top_limit scale fields = do
  field ← field_behind (codes "tmax") fields
  value_of scale field

-- the first row is the start, the last the end; no row stands behind the last
unfoldable pub top_row : ℕ → ℕ → ℕ → List (List ℕ) → Result Place FileCause
top_row count limit number fields =
    if nat_le count number then Err RowCount
    else plain_place limit ((number == 0) || (number + 1 == count)) fields

unfoldable pub top_rows : ℕ → ℕ → ℕ → List Row → Result (List Place) Refusal
top_rows count limit end rows = do
  places ← places_of (top_row count limit) 0 rows
  enough count end places

-- the instance of the rows, the first three of which are the head
unfoldable pub top_problem : ℕ → Option ℕ → ℕ → List Row → Result Problem Refusal
top_problem scale team end rows = do
  count ← head_line top_count end rows
  tours ← head_line (top_team team) end count.1
  limit ← head_line (top_limit scale) end tours.1
  places ← top_rows count.0 limit.0 end limit.1
  Ok (problem scale tours.0 places)
