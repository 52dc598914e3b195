-- Files of the TOPTW profile.
use Rattle.std.specs.Prelude.{ℕ, ◌-◌, Bool, List, [], ◌∷◌, ◌++◌, length, unsigned_abs, nat_lt, nat_le, Result, Ok, Err, Option, ◌==◌, if◌then◌else◌}
use Rattle.orienteering.specs.Instance.{Problem}
use Rattle.orienteering.specs.declared.Place.{Place}
use Rattle.instance_files.specs.Lines.{Row}
use Rattle.instance_files.specs.Values.{◌>>=◌, number_of, scaled_value, value_of, coordinate_of}
use Rattle.instance_files.specs.Rows.{Refusal, field_at, head_line, places_of, tours_of, enough, problem}
use Rattle.instance_files.specs.Op.{row_score}
use Rattle.instance_files.specs.declared.values.FileCause.{FileCause}
use Rattle.instance_files.specs.declared.values.FileCause.TheVariants.{Head, Fields, TooMany, Window}

-- the number of tours stands second
unfoldable pub toptw_head : Option ℕ → List (List ℕ) → Result ℕ FileCause
toptw_head team fields = if nat_lt (length fields) 2 then Err Head else tours_of team (field_at fields 1)

-- a line that isn't read
abbrev pub unread : List (List ℕ) → Result (Unit {0}) FileCause
unread fields = Ok tt

-- the service of a call; that of the start isn't read
abbrev pub row_service : ℕ → Bool → List ℕ → Result ℕ FileCause
row_service scale is_start field = if is_start then Ok 0 else value_of scale field

-- a time of a window, as it is read and scaled
unfoldable pub time_of : ℕ → List ℕ → Result (ℕ × ℕ) FileCause
time_of scale field = do
  d ← number_of field
  value ← scaled_value scale d.tenk
  Ok (unsigned_abs d.tenk, value)

-- the scaled opening and closing; the numbers as read must be in order
unfoldable pub window_of : ℕ → List ℕ → List ℕ → Result (ℕ × ℕ) FileCause
window_of scale first last = do
  opening ← time_of scale first
  closing ← time_of scale last
  if nat_lt closing.0 opening.0 then Err Window else Ok (opening.1, closing.1)

-- x, y, service and score stand second to fifth, the opening and the closing last
unfoldable pub windowed_place : ℕ → Bool → List (List ℕ) → Result Place FileCause
windowed_place scale is_start fields =
    if nat_lt (length fields) 7 then Err Fields
    else do
      x ← coordinate_of (field_at fields 1)
      y ← coordinate_of (field_at fields 2)
      service ← row_service scale is_start (field_at fields 3)
      score ← row_score is_start (field_at fields 4)
      window ← window_of scale (field_at fields (length fields - 2)) (field_at fields (length fields - 1))
      Ok (record { x = x; y = y; score = score; service = service; opening = window.0; closing = window.1 })

-- the first row is the start; 301 rows are the most
unfoldable pub toptw_row : ℕ → ℕ → List (List ℕ) → Result Place FileCause
toptw_row scale number fields = if nat_le 301 number then Err TooMany else windowed_place scale (number == 0) fields

-- the start is the end too
abbrev pub start_again : List Place → List Place
start_again [] = []
start_again (start ∷ calls) = start ∷ calls ++ start ∷ []

unfoldable pub toptw_rows : ℕ → ℕ → List Row → Result (List Place) Refusal
toptw_rows scale end rows = do
  places ← places_of (toptw_row scale) 0 rows
  all ← enough 1 end places
  Ok (start_again all)

-- the instance of the rows, the first two of which are the head
unfoldable pub toptw_problem : ℕ → Option ℕ → ℕ → List Row → Result Problem Refusal
toptw_problem scale team end rows = do
  tours ← head_line (toptw_head team) end rows
  second ← head_line unread end tours.1
  places ← toptw_rows scale end second.1
  Ok (problem scale tours.0 places)
