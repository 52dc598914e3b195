-- The values of single fields.
use Rattle.std.specs.Prelude.{ℕ, ◌*◌, ◌/◌, ◌||◌, ◌&&◌, Bool, true, false, not, List, ℤ, pos, negsuc, unsigned_abs, Result, Ok, Err, nat_lt, if◌then◌else◌}
use Rattle.orienteering.specs.Limits.{most_coordinate, most_score, most_members, latest}
use Rattle.fixed_num.specs.declared.decimal.Decimal.{Decimal}
use Rattle.fixed_num.specs.declared.decimal.NumRefusal.{NumRefusal}
use Rattle.fixed_num.specs.declared.decimal.NumRefusal.TheVariants.{Empty, BadByte, TooLong, OutOfRange as TooLarge}
use Rattle.fixed_num.specs.Decimal.{decimal_of}
use Rattle.instance_files.specs.declared.values.FileCause.{FileCause}
use Rattle.instance_files.specs.declared.values.FileCause.TheVariants.{Number, OutOfRange, Score, Team}

-- one step, and behind it the next, unless the first refuses
infixl 10 ◌>>=◌
abbrev pub ◌>>=◌ : {A B E : Type 0} → Result A E → (A → Result B E) → Result B E
(Ok x) >>= f = f x
(Err e) >>= f = Err e

abbrev pub number_cause : NumRefusal → FileCause
number_cause Empty = Number
number_cause BadByte = Number
number_cause TooLong = Number
number_cause TooLarge = OutOfRange

abbrev pub or_cause : Result Decimal NumRefusal → Result Decimal FileCause
or_cause (Ok d) = Ok d
or_cause (Err refusal) = Err (number_cause refusal)

-- a field as a number
unfoldable pub number_of : List ℕ → Result Decimal FileCause
number_of field = or_cause (decimal_of field)

abbrev pub is_negative : ℤ → Bool
is_negative (pos n) = false
is_negative (negsuc n) = true

-- the number in ten-thousandths as a number of scaled units, floored
abbrev pub scaled : ℕ → ℤ → ℕ
scaled scale tenk = scale * unsigned_abs tenk / 10000

abbrev pub scaled_value : ℕ → ℤ → Result ℕ FileCause
scaled_value scale tenk = if is_negative tenk || nat_lt latest (scaled scale tenk) then Err OutOfRange else Ok (scaled scale tenk)

-- a field as a scaled value: a limit, a service or a time
unfoldable pub value_of : ℕ → List ℕ → Result ℕ FileCause
value_of scale field = do
  d ← number_of field
  scaled_value scale d.tenk

abbrev pub near : ℤ → Result ℤ FileCause
near tenk = if nat_lt most_coordinate (unsigned_abs tenk) then Err OutOfRange else Ok tenk

-- a field as a coordinate, in ten-thousandths
unfoldable pub coordinate_of : List ℕ → Result ℤ FileCause
coordinate_of field = do
  d ← number_of field
  near d.tenk

-- a whole number between these ends
abbrev pub is_whole_between : ℕ → ℕ → Decimal → Bool
is_whole_between low high d =
    d.whole && not (is_negative d.tenk) && not (nat_lt (unsigned_abs d.tenk) (low * 10000)) && not (nat_lt (high * 10000) (unsigned_abs d.tenk))

abbrev pub whole_between : ℕ → ℕ → FileCause → Decimal → Result ℕ FileCause
whole_between low high cause d = if is_whole_between low high d then Ok (unsigned_abs d.tenk / 10000) else Err cause

-- a field as a number of tours
unfoldable pub count_of : List ℕ → Result ℕ FileCause
count_of field = do
  d ← number_of field
  whole_between 1 most_members Team d

-- a field as a call's score
unfoldable pub score_of : List ℕ → Result ℕ FileCause
score_of field = do
  d ← number_of field
  whole_between 0 most_score Score d
