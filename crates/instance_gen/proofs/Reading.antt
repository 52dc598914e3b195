-- The fields and rows of generated files, read without refusal.
use Rattle.std.proofs.Common.{◌≡◌, ℕ, suc, ◌+◌, ◌*◌, ◌/◌, ◌<◌, ◌≤◌, Bool, true, false, cond, not, nat_lt, List, [], ◌∷◌, length, map, refl, ap, ◌∙◌, arith, ℤ, pos, Ok, Err, Result}
use Rattle.std.specs.Prelude.{decimal}
use Rattle.std.specs.List.{AllByRecursion}
use Rattle.std.specs.Cmp.Derive.{both_true}
use Rattle.std.proofs.lemmas.Nat.{mul-le}
use Rattle.orienteering.specs.Limits.{most_coordinate, most_score, most_members, latest}
use Rattle.orienteering.specs.declared.Place.{Place}
use Rattle.fixed_num.specs.declared.decimal.Decimal.{Decimal}
use Rattle.instance_files.specs.Values.{◌>>=◌, or_cause, number_of, near, coordinate_of, scaled_value, value_of, whole_between, count_of, score_of}
use Rattle.instance_files.specs.Lines.{Row}
use Rattle.instance_files.specs.Rows.{Refusal, RowReading, at_line, head_line, places_of, enough}
use Rattle.instance_files.specs.Op.{row_score, open_place, plain_place}
use Rattle.instance_files.specs.declared.values.FileCause.{FileCause}
use Rattle.instance_files.specs.declared.values.FileCause.TheVariants.{OutOfRange, Score, Team, RowCount}
use Rattle.instance_gen.proofs.Numerals.{not_below, whole_number, decimal_read}
use Rattle.instance_gen.proofs.Fields.{number_rows}
use Rattle.instance_gen.proofs.Texts.{IsPlainLine, fields_of}

-- ---- what is read

abbrev pub IsRead : {A E : Type 0} → Result A E → Type 0
IsRead {A} r = (a : A) × (r ≡ Ok a)

-- what follows a step is read, whatever the step gives
pub read_both : {A B E : Type 0} (r : Result A E) (f : A → Result B E) → IsRead r → ((a : A) → IsRead (f a)) → IsRead (r >>= f)
read_both r f first then_each = let next = then_each first.0 in (next.0, ap (λ q. q >>= f) first.1 ∙ next.1)

-- what follows a step is read where that is
pub read_next : {A B E : Type 0} (r : Result A E) (f : A → Result B E) (first : IsRead r) → IsRead (f first.0) → IsRead (r >>= f)
read_next r f first next = (next.0, ap (λ q. q >>= f) first.1 ∙ next.1)

-- ---- single fields

pub number_read : (n : ℕ) → n ≤ 999999999 → number_of (decimal n) ≡ Ok (whole_number n)
unfolding number_of
number_read n small = ap or_cause (decimal_read n small)

pub coordinate_read : (n : ℕ) → n ≤ 100000 → IsRead (coordinate_of (decimal n))
unfolding coordinate_of
coordinate_read n small =
    let low : nat_lt most_coordinate (n * 10000) ≡ false = not_below most_coordinate (n * 10000) (omega arith) in (
      pos (n * 10000),
      ap (λ r. r >>= (λ (d : Decimal). near d.tenk)) (number_read n (omega arith)) ∙ ap (λ b. cond {A = Result ℤ FileCause} b (Err OutOfRange) (Ok (pos (n * 10000)))) low,
    )

-- a low number is within range at each scale
pub scaled_low : (scale n : ℕ) → scale ≤ 1000 → n ≤ 240 → scale * (n * 10000) / 10000 ≤ latest
scaled_low scale n scale_low low =
    let product : scale * (n * 10000) ≤ 1000 * 2400000 = mul-le scale (n * 10000) 1000 2400000 scale_low (omega arith) in
    omega arith

pub scaled_read : (scale n : ℕ) → scale ≤ 1000 → n ≤ 240 → scaled_value scale (pos (n * 10000)) ≡ Ok (scale * (n * 10000) / 10000)
scaled_read scale n scale_low low =
    ap (λ b. cond {A = Result ℕ FileCause} b (Err OutOfRange) (Ok (scale * (n * 10000) / 10000)))
    (not_below latest (scale * (n * 10000) / 10000) (scaled_low scale n scale_low low))

pub value_read : (scale n : ℕ) → scale ≤ 1000 → n ≤ 240 → IsRead (value_of scale (decimal n))
unfolding value_of
value_read scale n scale_low low = (
  scale * (n * 10000) / 10000,
  ap (λ r. r >>= (λ (d : Decimal). scaled_value scale d.tenk)) (number_read n (omega arith)) ∙ scaled_read scale n scale_low low,
)

whole_read : (low high n : ℕ) (cause : FileCause) → low ≤ n → n ≤ high → IsRead (whole_between low high cause (whole_number n))
whole_read low high n cause above below =
    let high_enough : nat_lt (n * 10000) (low * 10000) ≡ false = not_below (n * 10000) (low * 10000) (omega arith) in
    let low_enough : nat_lt (high * 10000) (n * 10000) ≡ false = not_below (high * 10000) (n * 10000) (omega arith) in (
      n * 10000 / 10000,
      ap (λ b. cond {A = Result ℕ FileCause} b (Ok (n * 10000 / 10000)) (Err cause)) (both_true (both_true refl (ap not high_enough)) (ap not low_enough)),
    )

pub score_read : (n : ℕ) → n ≤ 100000 → IsRead (score_of (decimal n))
unfolding score_of
score_read n small =
    let read = whole_read 0 most_score n Score (omega arith) (omega arith) in
    (read.0, ap (λ r. r >>= whole_between 0 most_score Score) (number_read n (omega arith)) ∙ read.1)

pub count_read : (n : ℕ) → 1 ≤ n → n ≤ 32 → IsRead (count_of (decimal n))
unfolding count_of
count_read n some small =
    let read = whole_read 1 most_members n Team some (omega arith) in
    (read.0, ap (λ r. r >>= whole_between 1 most_members Team) (number_read n (omega arith)) ∙ read.1)

-- ---- rows

pub row_score_read : (is_end : Bool) (score : ℕ) → score ≤ 20 → IsRead (row_score is_end (decimal score))
row_score_read true score small = (0, refl)
row_score_read false score small = score_read score (omega arith)

numbers_read : (limit : ℕ) (is_end : Bool) (x y score : ℕ) → x ≤ 100 → y ≤ 100 → score ≤ 20 → IsRead (plain_place limit is_end (decimal x ∷ decimal y ∷ decimal score ∷ []))
unfolding plain_place
numbers_read limit is_end x y score x_low y_low score_low =
    read_both _ _ (coordinate_read x (omega arith))
    (λ a. read_both _ _ (coordinate_read y (omega arith))
    (λ b. read_both _ _ (row_score_read is_end score score_low)
    (λ s. (open_place limit a b s, refl))))

pub plain_read : (limit : ℕ) (is_end : Bool) (l : List ℕ) → IsPlainLine l → IsRead (plain_place limit is_end (map decimal l))
plain_read limit is_end l is =
    let read = numbers_read limit is_end is.x is.y is.score is.x_low is.y_low is.score_low in
    (read.0, ap (λ (ns : List ℕ). plain_place limit is_end (map decimal ns)) is.line_is ∙ read.1)

-- as many places as rows
pub record AreRead (r : Result (List Place) Refusal) (count : ℕ) : Type 0 where
  pub places : List Place
  pub read : r ≡ Ok places
  pub count_is : length places ≡ count

abbrev put_first : Place → List Place → Result (List Place) Refusal
put_first place others = Ok (place ∷ others)

-- every such line is read in the rows below this number
abbrev pub LinesAreRead : RowReading → (List ℕ → Type 0) → ℕ → Type 0
LinesAreRead read P most = (number : ℕ) (l : List ℕ) → number < most → P l → IsRead (read number (map decimal l))

pub places_read : (read : RowReading) (P : List ℕ → Type 0) (most : ℕ) → LinesAreRead read P most → (number line : ℕ) (ls : List (List ℕ)) → number + length ls ≤ most → AllByRecursion P ls → AreRead (places_of read number (number_rows line (fields_of ls))) (length ls)
unfolding places_of
places_read read P most reads number line [] few are = record { places = []; read = refl; count_is = refl }
places_read read P most reads number line (l ∷ ls) few are =
    let first = reads number l (omega arith) are.0 in
    let others = places_read read P most reads (number + 1) (line + 1) ls (omega arith) are.1 in
    record {
      places = first.0 ∷ others.places;
      read =
          ap (λ r. at_line line r >>= (λ (place : Place). places_of read (number + 1) (number_rows (line + 1) (fields_of ls)) >>= put_first place)) first.1 ∙
          ap (λ r. r >>= put_first first.0) others.read;
      count_is = ap suc others.count_is;
    }

pub enough_read : (least end : ℕ) (places : List Place) → least ≤ length places → enough least end places ≡ Ok places
enough_read least end places some =
    ap (λ b. cond {A = Result (List Place) Refusal} b (Err (record { line = end; cause = RowCount })) (Ok places)) (not_below (length places) least some)

-- ---- lines of the head

abbrev with_rows : {A : Type 0} → List Row → A → Result (A × List Row) Refusal
with_rows rows y = Ok (y, rows)

-- what follows a line of the head is read where that is
pub head_next : {A B : Type 0} (read : List (List ℕ) → Result A FileCause) (end line : ℕ) (fields : List (List ℕ)) (rows : List Row) (f : A × List Row → Result B Refusal) (first : IsRead (read fields)) → IsRead (f (first.0, rows)) → IsRead (head_line read end (record { line = line; fields = fields } ∷ rows) >>= f)
unfolding head_line
head_next read end line fields rows f first next = (next.0, ap (λ r. (at_line line r >>= with_rows rows) >>= f) first.1 ∙ next.1)
