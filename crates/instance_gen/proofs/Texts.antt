-- Generated texts as lines of short fields.
use Rattle.std.proofs.Common.{◌≡◌, ℕ, suc, zero, ◌+◌, ◌*◌, ◌%◌, ◌<◌, ◌≤◌, true, List, [], ◌∷◌, ◌++◌, length, map, refl, sym, ap, subst, ◌∙◌, append_assoc, length-append, arith}
use Rattle.std.specs.Prelude.{decimal, codes}
use Rattle.std.specs.List.{AllByRecursion, flat_map}
use Rattle.std.specs.Str.{all_ascii_digits}
use Rattle.std.proofs.lemmas.Fmt.{decimal_nonempty, length-decimal-le}
use Rattle.std.proofs.lemmas.List.{length-map}
use Rattle.std.proofs.lemmas.Str.Parse.{tells_all_ascii_digits}
use Rattle.draws.specs.Draws.{start, draws, draws_behind}
use Rattle.instance_files.specs.Lines.{is_nonempty}
use Rattle.instance_files.specs.declared.file.Format.{Format}
use Rattle.instance_files.specs.declared.file.Format.TheVariants.{Op, Top, Toptw}
use Rattle.instance_gen.specs.Generated.{spaced, numbers_line, lines_text, word_line, plain_calls, windowed_calls, middle, op_lines, toptw_lines, generated}
use Rattle.instance_gen.specs.Laws.{FilesAreShort}
use Rattle.instance_gen.proofs.Draws.{third, fourth}
use Rattle.instance_gen.proofs.Numerals.{digits_of}
use Rattle.instance_gen.proofs.Fields.{IsField, IsLine, spaced_field, line_bytes, text_of, text_length}

-- ---- lines of numbers

-- the fields of lines of numbers
abbrev pub fields_of : List (List ℕ) → List (List (List ℕ))
fields_of ls = map (map decimal) ls

-- one to nine numbers below 1000
pub record IsNumbersLine (numbers : List ℕ) : Type 0 where
  pub some : is_nonempty numbers ≡ true
  pub few : length numbers ≤ 9
  pub low : AllByRecursion (λ n. n < 1000) numbers

some_bytes : (bytes : List ℕ) → 0 < length bytes → is_nonempty bytes ≡ true
some_bytes [] some = absurd (omega arith)
some_bytes (b ∷ bytes) some = refl

digits_high : (ds : List ℕ) → all_ascii_digits ds ≡ true → AllByRecursion (λ b. 32 < b) ds
digits_high [] digits = tt
digits_high (c ∷ cs) digits = let parts = tells_all_ascii_digits.parts c cs digits in (omega arith, digits_high cs parts.1)

number_is_field : (n : ℕ) → n < 1000 → IsField (decimal n)
number_is_field n low = record {
  some = some_bytes (decimal n) (decimal_nonempty n (omega arith));
  short = omega (arith, length-decimal-le 3 n (omega arith) (omega arith) (omega arith));
  high = digits_high (decimal n) (digits_of n (omega arith));
}

numbers_are_fields : (numbers : List ℕ) → AllByRecursion (λ n. n < 1000) numbers → AllByRecursion IsField (map decimal numbers)
numbers_are_fields [] low = tt
numbers_are_fields (n ∷ others) low = (number_is_field n low.0, numbers_are_fields others low.1)

some_field : (l : List ℕ) → is_nonempty l ≡ true → is_nonempty (map decimal l) ≡ true
some_field [] some = some
some_field (n ∷ others) some = refl

numbers_are_line : (l : List ℕ) → IsNumbersLine l → IsLine (map decimal l)
numbers_are_line l is = record {
  some = some_field l is.some;
  few = omega (arith, length-map l decimal);
  each = numbers_are_fields l is.low;
}

numbers_are_lines : (ls : List (List ℕ)) → AllByRecursion IsNumbersLine ls → AllByRecursion IsLine (fields_of ls)
numbers_are_lines [] are = tt
numbers_are_lines (l ∷ ls) are = (numbers_are_line l are.0, numbers_are_lines ls are.1)

spaced_numbers : (others : List ℕ) → flat_map spaced others ≡ flat_map spaced_field (map decimal others)
spaced_numbers [] = refl
spaced_numbers (n ∷ others) = ap (λ bytes. 32 ∷ decimal n ++ bytes) (spaced_numbers others)

numbers_text : (l : List ℕ) (rest : List ℕ) → numbers_line l ++ rest ≡ line_bytes (map decimal l) ++ 10 ∷ rest
numbers_text [] rest = refl
numbers_text (n ∷ others) rest = rw (spaced_numbers others) (simp append_assoc)

lines_are_text : (ls : List (List ℕ)) → lines_text ls ≡ text_of (fields_of ls)
lines_are_text [] = refl
lines_are_text (l ∷ ls) = numbers_text l (lines_text ls) ∙ ap (λ bytes. line_bytes (map decimal l) ++ 10 ∷ bytes) (lines_are_text ls)

-- ---- lines with a word

abbrev pub word_fields : List ℕ → ℕ → List (List ℕ)
word_fields word n = word ∷ decimal n ∷ []

word_text : (word : List ℕ) (n : ℕ) (rest : List ℕ) → word_line (word ++ 32 ∷ []) n ++ rest ≡ line_bytes (word_fields word n) ++ 10 ∷ rest
word_text word n rest = simp append_assoc

word_is_line : (word : List ℕ) (n : ℕ) → n < 1000 → IsField word → IsLine (word_fields word n)
word_is_line word n low is = record { some = refl; few = omega arith; each = (is, (number_is_field n low, tt)) }

-- ---- places

-- the line of a place: x, y and score
pub record IsPlainLine (l : List ℕ) : Type 0 where
  pub x : ℕ
  pub y : ℕ
  pub score : ℕ
  pub line_is : l ≡ x ∷ y ∷ score ∷ []
  pub x_low : x ≤ 100
  pub y_low : y ≤ 100
  pub score_low : score ≤ 20

-- the line of a place with its number, its service and its window
pub record IsWindowedLine (l : List ℕ) : Type 0 where
  pub number : ℕ
  pub x : ℕ
  pub y : ℕ
  pub service : ℕ
  pub score : ℕ
  pub opening : ℕ
  pub closing : ℕ
  pub line_is : l ≡ number ∷ x ∷ y ∷ service ∷ score ∷ 0 ∷ 0 ∷ opening ∷ closing ∷ []
  pub number_low : number < 1000
  pub x_low : x ≤ 100
  pub y_low : y ≤ 100
  pub service_low : service ≤ 10
  pub score_low : score ≤ 20
  pub in_order : opening ≤ closing
  pub closing_low : closing ≤ 240

plain_is_numbers : (l : List ℕ) → IsPlainLine l → IsNumbersLine l
plain_is_numbers l is =
    subst IsNumbersLine (sym is.line_is) (record { some = refl; few = omega arith; low = (omega (arith, is.x_low), (omega (arith, is.y_low), (omega (arith, is.score_low), tt))) })

windowed_is_numbers : (l : List ℕ) → IsWindowedLine l → IsNumbersLine l
windowed_is_numbers l is =
    subst IsNumbersLine (sym is.line_is) (record {
      some = refl;
      few = omega arith;
      low = (is.number_low, (omega (arith, is.x_low), (omega (arith, is.y_low), (omega (arith, is.service_low), (omega (arith, is.score_low), (omega arith, (omega arith, (omega (arith, is.in_order, is.closing_low), (omega (arith, is.closing_low), tt)))))))));
    })

pub each_weaker : {A : Type 0} (P Q : A → Type 0) → ((x : A) → P x → Q x) → (xs : List A) → AllByRecursion P xs → AllByRecursion Q xs
each_weaker P Q weaker [] all = tt
each_weaker P Q weaker (x ∷ xs) all = (weaker x all.0, each_weaker P Q weaker xs all.1)

each_append : {A : Type 0} (P : A → Type 0) (xs ys : List A) → AllByRecursion P xs → AllByRecursion P ys → AllByRecursion P (xs ++ ys)
each_append P [] ys all others = others
each_append P (x ∷ xs) ys all others = (all.0, each_append P xs ys all.1 others)

pub middle_is_plain : IsPlainLine middle
middle_is_plain = record { x = 50; y = 50; score = 0; line_is = refl; x_low = omega arith; y_low = omega arith; score_low = omega arith }

calls_are_plain : (drawn : List ℕ) → AllByRecursion IsPlainLine (plain_calls drawn)
calls_are_plain [] = tt
calls_are_plain (x ∷ []) = tt
calls_are_plain (x ∷ y ∷ []) = tt
calls_are_plain (x ∷ y ∷ score ∷ drawn) =
    (record { x = x % 101; y = y % 101; score = 1 + score % 20; line_is = refl; x_low = omega arith; y_low = omega arith; score_low = omega arith }, calls_are_plain drawn)

plain_counted : (draw n : ℕ) → length (plain_calls (draws_behind draw (3 * n))) ≡ n
plain_counted draw zero = refl
plain_counted draw (suc n) =
    let drawn : 3 * suc n ≡ suc (suc (suc (3 * n))) = omega arith in
    ap (λ k. length (plain_calls (draws_behind draw k))) drawn ∙ ap suc (plain_counted (third draw) n)

calls_are_windowed : (number : ℕ) (drawn : List ℕ) → number + length (windowed_calls number drawn) ≤ 1000 → AllByRecursion IsWindowedLine (windowed_calls number drawn)
calls_are_windowed number [] few = tt
calls_are_windowed number (x ∷ []) few = tt
calls_are_windowed number (x ∷ y ∷ []) few = tt
calls_are_windowed number (x ∷ y ∷ score ∷ []) few = tt
calls_are_windowed number (x ∷ y ∷ score ∷ opening ∷ drawn) few = (
  record {
    number = number;
    x = x % 101;
    y = y % 101;
    service = 10;
    score = 1 + score % 20;
    opening = opening % 120;
    closing = opening % 120 + 60;
    line_is = refl;
    number_low = omega arith;
    x_low = omega arith;
    y_low = omega arith;
    service_low = omega arith;
    score_low = omega arith;
    in_order = omega arith;
    closing_low = omega arith;
  },
  calls_are_windowed (number + 1) drawn (omega arith),
)

windowed_counted : (number draw n : ℕ) → length (windowed_calls number (draws_behind draw (4 * n))) ≡ n
windowed_counted number draw zero = refl
windowed_counted number draw (suc n) =
    let drawn : 4 * suc n ≡ suc (suc (suc (suc (4 * n)))) = omega arith in
    ap (λ k. length (windowed_calls number (draws_behind draw k))) drawn ∙ ap suc (windowed_counted (number + 1) (fourth draw) n)

-- ---- files

-- the places of a file, in its order
abbrev pub op_places : ℕ → ℕ → List (List ℕ)
op_places seed calls = middle ∷ middle ∷ plain_calls (draws seed (3 * calls))

abbrev pub top_places : ℕ → ℕ → List (List ℕ)
top_places seed calls = middle ∷ plain_calls (draws seed (3 * calls)) ++ middle ∷ []

abbrev pub toptw_places : ℕ → ℕ → List (List ℕ)
toptw_places seed calls = (0 ∷ 50 ∷ 50 ∷ 0 ∷ 0 ∷ 0 ∷ 0 ∷ 0 ∷ 240 ∷ []) ∷ windowed_calls 1 (draws seed (4 * calls))

pub op_are_plain : (seed calls : ℕ) → AllByRecursion IsPlainLine (op_places seed calls)
op_are_plain seed calls = (middle_is_plain, (middle_is_plain, calls_are_plain (draws seed (3 * calls))))

pub op_counted : (seed calls : ℕ) → length (op_places seed calls) ≡ calls + 2
op_counted seed calls = omega (arith, plain_counted (start seed) calls)

pub top_are_plain : (seed calls : ℕ) → AllByRecursion IsPlainLine (top_places seed calls)
top_are_plain seed calls =
    (middle_is_plain, each_append IsPlainLine (plain_calls (draws seed (3 * calls))) (middle ∷ []) (calls_are_plain (draws seed (3 * calls))) (middle_is_plain, tt))

pub top_counted : (seed calls : ℕ) → length (top_places seed calls) ≡ calls + 2
top_counted seed calls = omega (arith, plain_counted (start seed) calls, length-append (plain_calls (draws seed (3 * calls))) (middle ∷ []))

pub toptw_counted : (seed calls : ℕ) → length (toptw_places seed calls) ≡ calls + 1
toptw_counted seed calls = omega (arith, windowed_counted 1 (start seed) calls)

pub toptw_are_windowed : (seed calls : ℕ) → calls ≤ 300 → AllByRecursion IsWindowedLine (toptw_places seed calls)
toptw_are_windowed seed calls few = (
  record {
    number = 0;
    x = 50;
    y = 50;
    service = 0;
    score = 0;
    opening = 0;
    closing = 240;
    line_is = refl;
    number_low = omega arith;
    x_low = omega arith;
    y_low = omega arith;
    service_low = omega arith;
    score_low = omega arith;
    in_order = omega arith;
    closing_low = omega arith;
  },
  calls_are_windowed 1 (draws seed (4 * calls)) (omega (arith, windowed_counted 1 (start seed) calls)),
)

-- the lines of a file
abbrev pub file_lines : ℕ → ℕ → Format → List (List (List ℕ))
file_lines seed calls Op = map decimal (120 ∷ 2 ∷ []) ∷ fields_of (op_places seed calls)
file_lines seed calls Top =
    word_fields (codes "n") (calls + 2) ∷ word_fields (codes "m") 2 ∷ word_fields (codes "tmax") 60 ∷ fields_of (top_places seed calls)
file_lines seed calls Toptw = map decimal (0 ∷ 2 ∷ (calls + 1) ∷ 0 ∷ []) ∷ map decimal (0 ∷ 0 ∷ []) ∷ fields_of (toptw_places seed calls)

pub file_text : (seed calls : ℕ) (format : Format) → generated seed calls format ≡ text_of (file_lines seed calls format)
file_text seed calls Op = lines_are_text (op_lines (plain_calls (draws seed (3 * calls))))
file_text seed calls Top =
    let places : List ℕ = lines_text (top_places seed calls) in
    let limit : List ℕ = word_line (codes "tmax ") 60 ++ places in
    let team : List ℕ = word_line (codes "m ") 2 ++ limit in
    word_text (codes "n") (calls + 2) team ∙
    ap (λ bytes. line_bytes (word_fields (codes "n") (calls + 2)) ++ 10 ∷ bytes) (word_text (codes "m") 2 limit ∙
    ap (λ bytes. line_bytes (word_fields (codes "m") 2) ++ 10 ∷ bytes) (word_text (codes "tmax") 60 places ∙
    ap (λ bytes. line_bytes (word_fields (codes "tmax") 60) ++ 10 ∷ bytes) (lines_are_text (top_places seed calls))))
file_text seed calls Toptw = lines_are_text (toptw_lines (calls + 1) (windowed_calls 1 (draws seed (4 * calls))))

places_are_lines : (P : List ℕ → Type 0) → ((l : List ℕ) → P l → IsNumbersLine l) → (ls : List (List ℕ)) → AllByRecursion P ls → AllByRecursion IsLine (fields_of ls)
places_are_lines P numbers ls are = numbers_are_lines ls (each_weaker P IsNumbersLine numbers ls are)

pub file_is_lines : (seed calls : ℕ) (format : Format) → calls ≤ 300 → AllByRecursion IsLine (file_lines seed calls format)
file_is_lines seed calls Op few = (
  numbers_are_line (120 ∷ 2 ∷ []) (record { some = refl; few = omega arith; low = (omega arith, (omega arith, tt)) }),
  places_are_lines IsPlainLine plain_is_numbers (op_places seed calls) (op_are_plain seed calls),
)
file_is_lines seed calls Top few = (
  word_is_line (codes "n") (calls + 2) (omega arith) (record { some = refl; short = omega arith; high = (omega arith, tt) }),
  (
    word_is_line (codes "m") 2 (omega arith) (record { some = refl; short = omega arith; high = (omega arith, tt) }),
    (
      word_is_line (codes "tmax") 60 (omega arith) (record { some = refl; short = omega arith; high = (omega arith, (omega arith, (omega arith, (omega arith, tt)))) }),
      places_are_lines IsPlainLine plain_is_numbers (top_places seed calls) (top_are_plain seed calls),
    ),
  ),
)
file_is_lines seed calls Toptw few = (
  numbers_are_line (0 ∷ 2 ∷ (calls + 1) ∷ 0 ∷ []) (record { some = refl; few = omega arith; low = (omega arith, (omega arith, (omega arith, (omega arith, tt)))) }),
  (
    numbers_are_line (0 ∷ 0 ∷ []) (record { some = refl; few = omega arith; low = (omega arith, (omega arith, tt)) }),
    places_are_lines IsWindowedLine windowed_is_numbers (toptw_places seed calls) (toptw_are_windowed seed calls few),
  ),
)

-- at most 305 lines
lines_counted : (seed calls : ℕ) (format : Format) → length (file_lines seed calls format) ≤ calls + 5
lines_counted seed calls Op = omega (arith, length-map (op_places seed calls) (map decimal), op_counted seed calls)
lines_counted seed calls Top = omega (arith, length-map (top_places seed calls) (map decimal), top_counted seed calls)
lines_counted seed calls Toptw = omega (arith, length-map (toptw_places seed calls) (map decimal), toptw_counted seed calls)

pub files_are_short : FilesAreShort
files_are_short format seed calls few =
    subst (λ (bytes : List ℕ). length bytes ≤ 20000) (sym (file_text seed calls format))
    (omega (arith, text_length (file_lines seed calls format) (file_is_lines seed calls format few), lines_counted seed calls format))
