-- Files of the OP profile.
use Rattle.std.specs.Prelude.{ℕ, Bool, not, List, [], ◌∷◌, ◌++◌, length, ℤ, nat_lt, nat_le, Result, Ok, Err, Option, ◌==◌, if◌then◌else◌}
use Rattle.orienteering.specs.Instance.{Problem}
use Rattle.orienteering.specs.declared.Place.{Place}
use Rattle.instance_files.specs.Lines.{Row}
use Rattle.instance_files.specs.Values.{◌>>=◌, value_of, coordinate_of, score_of}
use Rattle.instance_files.specs.Rows.{Refusal, field_at, head_line, places_of, tours_of, enough, problem}
use Rattle.instance_files.specs.declared.values.FileCause.{FileCause}
use Rattle.instance_files.specs.declared.values.FileCause.TheVariants.{Head, Fields, TooMany}

-- the limit and the number of tours
unfoldable pub op_head : ℕ → Option ℕ → List (List ℕ) → Result (ℕ × ℕ) FileCause
op_head scale team fields =
    if not (length fields == 2) then Err Head
    else do
      limit ← value_of scale (field_at fields 0)
      tours ← tours_of team (field_at fields 1)
      Ok (limit, tours)

-- the score of a call; that of the start and the end isn't read
abbrev pub row_score : Bool → List ℕ → Result ℕ FileCause
row_score is_end field = if is_end then Ok 0 else score_of field

-- a place that is open from 0 to the limit
abbrev pub open_place : ℕ → ℤ → ℤ → ℕ → Place
open_place limit x y score = record { x = x; y = y; score = score; service = 0; opening = 0; closing = limit }

-- the place of the fields x, y and score
unfoldable pub plain_place : ℕ → Bool → List (List ℕ) → Result Place FileCause
plain_place limit is_end fields =
    if not (length fields == 3) then Err Fields
    else do
      x ← coordinate_of (field_at fields 0)
      y ← coordinate_of (field_at fields 1)
      score ← row_score is_end (field_at fields 2)
      Ok (open_place limit x y score)

-- the first row is the start, the second the end; 302 rows are the most
unfoldable pub op_row : ℕ → ℕ → List (List ℕ) → Result Place FileCause
op_row limit number fields = if nat_le 302 number then Err TooMany else plain_place limit (nat_lt number 2) fields

-- the start, the calls, and the end, which stands second in the file
abbrev pub end_last : List Place → List Place
end_last [] = []
end_last (start ∷ []) = start ∷ []
end_last (start ∷ end ∷ calls) = start ∷ calls ++ end ∷ []

unfoldable pub op_rows : ℕ → ℕ → List Row → Result (List Place) Refusal
op_rows limit end rows = do
  places ← places_of (op_row limit) 0 rows
  all ← enough 2 end places
  Ok (end_last all)

-- the instance of the rows, the first of which is the head
unfoldable pub op_problem : ℕ → Option ℕ → ℕ → List Row → Result Problem Refusal
op_problem scale team end rows = do
  head ← head_line (op_head scale team) end rows
  places ← op_rows head.0.0 end head.1
  Ok (problem scale head.0.1 places)
