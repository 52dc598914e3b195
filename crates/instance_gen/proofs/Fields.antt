-- Lines of fields: how long their text is, and that it is cut into the same lines and fields again.
use Rattle.std.proofs.Common.{◌≡◌, ℕ, ◌+◌, ◌*◌, ◌<◌, ◌≤◌, Bool, true, false, cond, nat_eq, List, [], ◌∷◌, ◌++◌, length, map, filter, refl, ap, ◌∙◌, append-nil, length-append, arith}
use Rattle.std.specs.List.{All, AllByRecursion, slice_split, flat_map}
use Rattle.std.proofs.lemmas.Bool.Decides.{nat_tests}
use Rattle.std.proofs.lemmas.List.Elements.{All-nil, All-cons, All-append, recursion_from_All}
use Rattle.std.proofs.lemmas.List.Splits.{slice_split_at, slice_split_none}
use Rattle.instance_files.specs.Lines.{is_line_feed, is_blank, is_nonempty, without_return, fields, without_empty_last, lines, Row, numbered, rows_from}

-- ---- fields and lines

-- a field of one to four bytes, each behind the space
pub record IsField (field : List ℕ) : Type 0 where
  pub some : is_nonempty field ≡ true
  pub short : length field ≤ 4
  pub high : AllByRecursion (λ b. 32 < b) field

-- a line of one to nine fields
pub record IsLine (line : List (List ℕ)) : Type 0 where
  pub some : is_nonempty line ≡ true
  pub few : length line ≤ 9
  pub each : AllByRecursion IsField line

-- a field behind a space
abbrev pub spaced_field : List ℕ → List ℕ
spaced_field field = 32 ∷ field

-- a line without its line feed
abbrev pub line_bytes : List (List ℕ) → List ℕ
line_bytes [] = []
line_bytes (field ∷ others) = field ++ flat_map spaced_field others

-- lines, each with its line feed
abbrev pub text_of : List (List (List ℕ)) → List ℕ
text_of [] = []
text_of (line ∷ more) = line_bytes line ++ 10 ∷ text_of more

-- ---- lengths

spaced_length : (others : List (List ℕ)) → AllByRecursion IsField others → length (flat_map spaced_field others) ≤ 5 * length others
spaced_length [] are = omega arith
spaced_length (field ∷ others) are =
    omega (arith, are.0.short, length-append field (flat_map spaced_field others), spaced_length others are.1)

line_length : (line : List (List ℕ)) → IsLine line → length (line_bytes line) ≤ 44
line_length [] is = omega arith
line_length (field ∷ others) is =
    omega (arith, is.few, is.each.0.short, length-append field (flat_map spaced_field others), spaced_length others is.each.1)

-- a line takes at most 45 bytes
pub text_length : (ls : List (List (List ℕ))) → AllByRecursion IsLine ls → length (text_of ls) ≤ 45 * length ls
text_length [] are = omega arith
text_length (l ∷ ls) are =
    omega (arith, length-append (line_bytes l) (10 ∷ text_of ls), line_length l are.0, text_length ls are.1)

-- ---- tests that no byte passes

-- no byte of a field passes a test that no byte behind the space passes
field_fails : (p : ℕ → Bool) → ((b : ℕ) → 32 < b → p b ≡ false) → (field : List ℕ) → AllByRecursion (λ b. 32 < b) field → All (λ b. p b ≡ false) field
field_fails p none [] high = All-nil (λ b. p b ≡ false)
field_fails p none (b ∷ bytes) high = All-cons (λ b. p b ≡ false) b bytes (none b high.0) (field_fails p none bytes high.1)

not_blank : (b : ℕ) → 32 < b → is_blank b ≡ false
not_blank b high = grind (arith, nat_tests)

apart : (b byte : ℕ) → byte < b → nat_eq b byte ≡ false
apart b byte low = grind (arith, nat_tests)

-- nor does the space, where the byte is below it
spaces_fail : (byte : ℕ) → byte < 32 → (others : List (List ℕ)) → AllByRecursion IsField others → All (λ b. nat_eq b byte ≡ false) (flat_map spaced_field others)
spaces_fail byte low [] are = All-nil (λ b. nat_eq b byte ≡ false)
spaces_fail byte low (field ∷ others) are =
    All-cons (λ b. nat_eq b byte ≡ false) 32 (field ++ flat_map spaced_field others) (apart 32 byte low)
    (All-append (λ b. nat_eq b byte ≡ false) field (flat_map spaced_field others) (field_fails (λ b. nat_eq b byte) (λ b high. apart b byte (omega arith)) field are.0.high)
    (spaces_fail byte low others are.1))

line_fails : (byte : ℕ) → byte < 32 → (line : List (List ℕ)) → AllByRecursion IsField line → All (λ b. nat_eq b byte ≡ false) (line_bytes line)
line_fails byte low [] are = All-nil (λ b. nat_eq b byte ≡ false)
line_fails byte low (field ∷ others) are =
    All-append (λ b. nat_eq b byte ≡ false) field (flat_map spaced_field others) (field_fails (λ b. nat_eq b byte) (λ b high. apart b byte (omega arith)) field are.0.high)
    (spaces_fail byte low others are.1)

-- ---- fields

split_blanks : (field : List ℕ) (others : List (List ℕ)) → AllByRecursion IsField (field ∷ others) → slice_split is_blank (field ++ flat_map spaced_field others) ≡ field ∷ others
split_blanks field [] are =
    ap (slice_split is_blank) (append-nil field) ∙ slice_split_none is_blank field (field_fails is_blank not_blank field are.0.high)
split_blanks field (next ∷ others) are =
    slice_split_at is_blank field 32 (next ++ flat_map spaced_field others) (field_fails is_blank not_blank field are.0.high) refl ∙
    ap (λ parts. field ∷ parts) (split_blanks next others are.1)

all_kept : (line : List (List ℕ)) → AllByRecursion IsField line → filter is_nonempty line ≡ line
all_kept [] are = refl
all_kept (field ∷ others) are =
    ap (λ b. cond b (field ∷ filter is_nonempty others) (filter is_nonempty others)) are.0.some ∙ ap (λ parts. field ∷ parts) (all_kept others are.1)

fields_cut : (line : List (List ℕ)) → AllByRecursion IsField line → fields (line_bytes line) ≡ line
fields_cut [] are = refl
fields_cut (field ∷ others) are = ap (filter is_nonempty) (split_blanks field others are) ∙ all_kept (field ∷ others) are

-- ---- lines

split_feeds : (ls : List (List (List ℕ))) → AllByRecursion IsLine ls → slice_split is_line_feed (text_of ls) ≡ map line_bytes ls ++ [] ∷ []
split_feeds [] are = refl
split_feeds (l ∷ ls) are =
    slice_split_at is_line_feed (line_bytes l) 10 (text_of ls) (line_fails 10 (omega arith) l are.0.each) refl ∙
    ap (λ parts. line_bytes l ∷ parts) (split_feeds ls are.1)

empty_last : (parts : List (List ℕ)) → without_empty_last (parts ++ [] ∷ []) ≡ parts
empty_last [] = refl
empty_last (part ∷ []) = refl
empty_last (part ∷ next ∷ parts) = ap (λ more. part ∷ more) (empty_last (next ∷ parts))

no_return : (bytes : List ℕ) → AllByRecursion (λ b. nat_eq b 13 ≡ false) bytes → without_return bytes ≡ bytes
no_return [] none = refl
no_return (b ∷ []) none = ap (λ t. cond t [] (b ∷ [])) none.0
no_return (b ∷ c ∷ bytes) none = ap (λ more. b ∷ more) (no_return (c ∷ bytes) none.1)

returns_kept : (ls : List (List (List ℕ))) → AllByRecursion IsLine ls → map without_return (map line_bytes ls) ≡ map line_bytes ls
returns_kept [] are = refl
returns_kept (l ∷ ls) are =
    let none = recursion_from_All (λ b. nat_eq b 13 ≡ false) (line_bytes l) (line_fails 13 (omega arith) l are.0.each) in
    ap (λ bytes. bytes ∷ map without_return (map line_bytes ls)) (no_return (line_bytes l) none) ∙ ap (λ more. line_bytes l ∷ more) (returns_kept ls are.1)

lines_cut : (ls : List (List (List ℕ))) → AllByRecursion IsLine ls → lines (text_of ls) ≡ map line_bytes ls
lines_cut ls are = ap (λ parts. map without_return (without_empty_last parts)) (split_feeds ls are) ∙ ap (map without_return) (empty_last (map line_bytes ls)) ∙ returns_kept ls are

-- ---- rows

-- the rows of lines, the first of which has this number
abbrev pub number_rows : ℕ → List (List (List ℕ)) → List Row
number_rows number [] = []
number_rows number (l ∷ ls) = record { line = number; fields = l } ∷ number_rows (number + 1) ls

rows_numbered : (number : ℕ) (ls : List (List (List ℕ))) → AllByRecursion IsLine ls → numbered number (map line_bytes ls) ≡ number_rows number ls
rows_numbered number [] are = refl
rows_numbered number (l ∷ ls) are =
    ap (λ (fs : List (List ℕ)). record { line = number; fields = fs } ∷ numbered (number + 1) (map line_bytes ls)) (fields_cut l are.0.each) ∙
    ap (λ (rows : List Row). record { line = number; fields = l } ∷ rows) (rows_numbered (number + 1) ls are.1)

rows_kept : (number : ℕ) (ls : List (List (List ℕ))) → AllByRecursion IsLine ls → filter (λ row. is_nonempty row.fields) (number_rows number ls) ≡ number_rows number ls
rows_kept number [] are = refl
rows_kept number (l ∷ ls) are =
    let rest = filter (λ (row : Row). is_nonempty row.fields) (number_rows (number + 1) ls) in
    let first : Row = record { line = number; fields = l } in
    ap (λ b. cond b (first ∷ rest) rest) are.0.some ∙ ap (λ (rows : List Row). first ∷ rows) (rows_kept (number + 1) ls are.1)

-- the rows of the text are the lines
pub rows_cut : (number : ℕ) (ls : List (List (List ℕ))) → AllByRecursion IsLine ls → rows_from number (text_of ls) ≡ number_rows number ls
rows_cut number ls are =
    ap (λ parts. filter (λ (row : Row). is_nonempty row.fields) (numbered number parts)) (lines_cut ls are) ∙ ap (filter (λ (row : Row). is_nonempty row.fields)) (rows_numbered number ls are) ∙
    rows_kept number ls are
