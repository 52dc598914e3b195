-- The decimal digits of a number, read as a field.
use Rattle.std.proofs.Common.{◌≡◌, ℕ, ◌+◌, ◌*◌, ◌<◌, ◌≤◌, ◌^◌, Bool, true, false, cond, not, ◌&&◌, nat_eq, nat_lt, List, [], ◌∷◌, length, get_or, take, drop, refl, sym, ap, subst, ◌∙◌, add-zero, arith, rules, pos, Ok, Err, Result}
use Rattle.std.specs.Prelude.{decimal}
use Rattle.std.specs.List.{position_or_len, before_first, after_first}
use Rattle.std.specs.Str.{all_ascii_digits}
use Rattle.std.specs.Str.Parse.{digits_value, digits_value_after, starts_with_minus, without_leading_sign}
use Rattle.std.proofs.lemmas.Bool.Decides.{nat_tests}
use Rattle.std.proofs.lemmas.Fmt.{digits_decimal, digits_value-decimal, decimal_nonempty, length-decimal-le}
use Rattle.std.proofs.lemmas.List.{take_all, drop_all}
use Rattle.std.proofs.lemmas.List.Sums.{position_or_len_is}
use Rattle.std.proofs.lemmas.Str.Parse.{IsNumeralModel, numerals_by_fold, tells_all_ascii_digits}
use Rattle.fixed_num.specs.Decimal.{decimal_of, is_point, whole_digits, decimal_digits, most_bytes, most_whole, decimal_from}
use Rattle.fixed_num.specs.declared.decimal.Decimal.{Decimal}
use Rattle.fixed_num.specs.declared.decimal.NumRefusal.{NumRefusal}
use Rattle.fixed_num.specs.declared.decimal.NumRefusal.TheVariants.{Empty, BadByte, TooLong, OutOfRange}
use Rattle.fixed_num.proofs.Digits.{digit-at}
use Rattle.std.specs.Cmp.Derive.{both_true}

own : IsNumeralModel (λ ds. all_ascii_digits ds ≡ true) (digits_value 10)
own = numerals_by_fold _ tells_all_ascii_digits (digits_value_after 10) (search rules)

pub digits_of : (n : ℕ) → n < 2 ^ 64 → all_ascii_digits (decimal n) ≡ true
digits_of n small = digits_decimal own n small

-- a byte below the digits is none of them
pub no_digit : (ds : List ℕ) (byte : ℕ) → all_ascii_digits ds ≡ true → byte < 48 → (k : ℕ) → k < length ds → nat_eq (get_or ds k 0) byte ≡ false
no_digit ds byte digits low k within = apart (get_or ds k 0) byte (digit-at ds k digits within).0 low
  where
    apart : (c byte : ℕ) → 48 ≤ c → byte < 48 → nat_eq c byte ≡ false
    apart c byte high low = grind (arith, nat_tests)

pub not_below : (a b : ℕ) → b ≤ a → nat_lt a b ≡ false
not_below a b h = grind (arith, nat_tests)

unequal : (a b : ℕ) → b < a → nat_eq a b ≡ false
unequal a b h = grind (arith, nat_tests)

-- digits have no sign
pub no_sign : (ds : List ℕ) → all_ascii_digits ds ≡ true → 0 < length ds → (starts_with_minus ds ≡ false) × (without_leading_sign ds ≡ ds)
no_sign [] digits some = absurd (omega arith)
no_sign (c ∷ cs) digits some =
    let minus : nat_eq c 45 ≡ false = no_digit (c ∷ cs) 45 digits (omega arith) 0 (omega arith) in
    let plus : nat_eq c 43 ≡ false = no_digit (c ∷ cs) 43 digits (omega arith) 0 (omega arith) in
    (minus, rw (minus, plus) refl)

-- digits have no point
point_at : (ds : List ℕ) → all_ascii_digits ds ≡ true → position_or_len is_point ds ≡ length ds
point_at ds digits = position_or_len_is is_point ds (length ds) 0 (omega arith) (no_digit ds 46 digits (omega arith)) (λ less. absurd (omega arith))

no_point : (ds : List ℕ) → all_ascii_digits ds ≡ true → (before_first is_point ds ≡ ds) × (after_first is_point ds ≡ [])
no_point ds digits =
    (ap (λ n. take n ds) (point_at ds digits) ∙ take_all (length ds) ds (omega arith), ap (λ n. drop (n + 1) ds) (point_at ds digits) ∙ drop_all (length ds + 1) ds (omega arith))

-- a whole number of units, in ten-thousandths
abbrev pub whole_number : ℕ → Decimal
whole_number n = record { tenk = pos (n * 10000); whole = true }

decimal_is : (minus : Bool) (units n : ℕ) (behind : List ℕ) → minus ≡ false → units ≡ n → behind ≡ [] → decimal_from minus units behind ≡ whole_number n
decimal_is minus units n behind no_minus same none =
    ap (λ b. decimal_from b units behind) no_minus ∙ ap (λ u. decimal_from false u behind) same ∙ ap (λ ds. decimal_from false n ds) none ∙
    ap (λ t. record { tenk = pos t; whole = true }) (add-zero (n * 10000))

judged : (long bad empty great : Bool) (d : Decimal) → long ≡ false → bad ≡ false → empty ≡ false → great ≡ false → cond {A = Result Decimal NumRefusal} long (Err TooLong) (cond bad (Err BadByte) (cond empty (Err Empty) (cond great (Err OutOfRange) (Ok d)))) ≡ Ok d
judged long bad empty great d e f g h = rw (e, f, g, h) refl

-- the decimal of a number's digits is the number
pub decimal_read : (n : ℕ) → n ≤ most_whole → decimal_of (decimal n) ≡ Ok (whole_number n)
unfolding decimal_of
decimal_read n small =
    let text : List ℕ = decimal n in
    let digits = digits_of n (omega arith) in
    let some = decimal_nonempty n (omega arith) in
    let short : length text ≤ 10 = length-decimal-le 10 n (omega arith) (omega arith) (omega arith) in
    let sign = no_sign text digits some in
    let point = no_point text digits in
    let whole : whole_digits text ≡ text = ap (before_first is_point) sign.1 ∙ point.0 in
    let behind : decimal_digits text ≡ [] = ap (after_first is_point) sign.1 ∙ point.1 in
    let value : digits_value 10 (whole_digits text) ≡ n = ap (digits_value 10) whole ∙ digits_value-decimal own n (omega arith) in
    let both : (all_ascii_digits (whole_digits text) && all_ascii_digits (decimal_digits text)) ≡ true = both_true (ap all_ascii_digits whole ∙ digits) (ap all_ascii_digits behind) in
    let long : nat_lt most_bytes (length text) ≡ false = not_below most_bytes (length text) (omega arith) in
    let filled : 0 < length (whole_digits text) = subst (λ (ds : List ℕ). 0 < length ds) (sym whole) some in
    let empty : (nat_eq (length (whole_digits text)) 0 && nat_eq (length (decimal_digits text)) 0) ≡ false =
    ap (λ b. b && nat_eq (length (decimal_digits text)) 0) (unequal (length (whole_digits text)) 0 filled) in
    let great : nat_lt most_whole (digits_value 10 (whole_digits text)) ≡ false = not_below most_whole (digits_value 10 (whole_digits text)) (omega (arith, value)) in
    judged (nat_lt most_bytes (length text)) (not (all_ascii_digits (whole_digits text) && all_ascii_digits (decimal_digits text))) _ (nat_lt most_whole (digits_value 10 (whole_digits text)))
    (decimal_from (starts_with_minus text) (digits_value 10 (whole_digits text)) (decimal_digits text)) long (ap not both) empty great ∙
    ap Ok (decimal_is (starts_with_minus text) (digits_value 10 (whole_digits text)) n (decimal_digits text) sign.0 value behind)
