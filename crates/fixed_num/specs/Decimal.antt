-- The decimal of a text, in ten-thousandths.
use Rattle.std.specs.Prelude.{ℕ, ◌+◌, ◌*◌, ◌-◌, ◌&&◌, Bool, not, List, length, slice_index, ℤ, pos, neg_ℤ, Result, Ok, Err, nat_lt, ◌==◌, if◌then◌else◌}
use Rattle.std.specs.List.{before_first, after_first, list_all}
use Rattle.std.specs.Str.{all_ascii_digits}
use Rattle.std.specs.Str.Parse.{digits_value, starts_with_minus, without_leading_sign}
use Rattle.fixed_num.specs.declared.decimal.Decimal.{Decimal}
use Rattle.fixed_num.specs.declared.decimal.NumRefusal.{NumRefusal}
use Rattle.fixed_num.specs.declared.decimal.NumRefusal.TheVariants.{Empty, BadByte, TooLong, OutOfRange}

abbrev pub most_bytes : ℕ
most_bytes = 40

abbrev pub most_whole : ℕ
most_whole = 999999999

abbrev pub is_point : ℕ → Bool
is_point b = b == 46

-- what stands before the point, and what stands behind it
abbrev pub whole_digits : List ℕ → List ℕ
whole_digits text = before_first is_point (without_leading_sign text)

abbrev pub decimal_digits : List ℕ → List ℕ
decimal_digits text = after_first is_point (without_leading_sign text)

-- the digit at a place behind the point, 0 where none stands
abbrev pub decimal_digit : List ℕ → ℕ → ℕ
decimal_digit digits place = slice_index digits place - 48

-- the first four digits behind the point
abbrev pub ten_thousandths : List ℕ → ℕ
ten_thousandths digits = decimal_digit digits 0 * 1000 + decimal_digit digits 1 * 100 + decimal_digit digits 2 * 10 + decimal_digit digits 3

abbrev pub signed : Bool → ℕ → ℤ
signed minus n = if minus then neg_ℤ (pos n) else pos n

abbrev pub is_zero : ℕ → Bool
is_zero b = b == 48

-- the number of a sign, of whole units and of the digits behind the point
abbrev pub decimal_from : Bool → ℕ → List ℕ → Decimal
decimal_from minus units behind = record { tenk = signed minus (units * 10000 + ten_thousandths behind); whole = list_all is_zero behind }

-- the number of a text, or the first of the refusals
unfoldable pub decimal_of : List ℕ → Result Decimal NumRefusal
decimal_of text =
    let whole = whole_digits text in
    let behind = decimal_digits text in
    if nat_lt most_bytes (length text) then Err TooLong
    else if not (all_ascii_digits whole && all_ascii_digits behind) then Err BadByte
    else if (length whole == 0) && (length behind == 0) then Err Empty
    else if nat_lt most_whole (digits_value 10 whole) then Err OutOfRange
    else Ok (decimal_from (starts_with_minus text) (digits_value 10 whole) behind)
