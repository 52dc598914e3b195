-- A generated file of each format is read without refusal.
use Rattle.std.proofs.Common.{◌≡◌, ℕ, ◌+◌, ◌*◌, ◌/◌, ◌<◌, ◌≤◌, Bool, true, false, cond, nat_lt, nat_le, nat_eq, List, [], ◌∷◌, length, map, refl, ap, ◌∙◌, arith, unsigned_abs, Ok, Err, Result, None}
use Rattle.std.specs.Prelude.{decimal, codes, ◌||◌}
use Rattle.std.specs.List.{AllByRecursion}
use Rattle.std.proofs.lemmas.Bool.Decides.{nat_tests}
use Rattle.orienteering.specs.declared.Place.{Place}
use Rattle.fixed_num.specs.declared.decimal.Decimal.{Decimal}
use Rattle.instance_files.specs.Values.{◌>>=◌, scaled_value}
use Rattle.instance_files.specs.Lines.{Row, rows_from, end_from}
use Rattle.instance_files.specs.Rows.{Refusal, problem}
use Rattle.instance_files.specs.Op.{op_head, plain_place, op_row, end_last, op_rows, op_problem}
use Rattle.instance_files.specs.Top.{field_behind, row_count, top_count, top_team, top_limit, top_row, top_rows, top_problem}
use Rattle.instance_files.specs.Toptw.{toptw_head, unread, row_service, time_of, window_of, windowed_place, toptw_row, start_again, toptw_rows, toptw_problem}
use Rattle.instance_files.specs.File.{rows_problem, file_problem}
use Rattle.instance_files.specs.declared.file.Format.{Format}
use Rattle.instance_files.specs.declared.file.Format.TheVariants.{Op, Top, Toptw}
use Rattle.instance_files.specs.declared.values.FileCause.{FileCause}
use Rattle.instance_files.specs.declared.values.FileCause.TheVariants.{Head, TooMany, RowCount, Window}
use Rattle.instance_gen.specs.Generated.{generated}
use Rattle.instance_gen.specs.Laws.{GeneratedFilesAreRead}
use Rattle.instance_gen.proofs.Numerals.{not_below, whole_number}
use Rattle.instance_gen.proofs.Fields.{number_rows, rows_cut}
use Rattle.instance_gen.proofs.Texts.{fields_of, word_fields, IsPlainLine, IsWindowedLine, op_places, top_places, toptw_places, op_are_plain, op_counted, top_are_plain, top_counted, toptw_are_windowed, toptw_counted, file_lines, file_text, file_is_lines}
use Rattle.instance_gen.proofs.Reading.{IsRead, read_both, read_next, number_read, coordinate_read, scaled_read, value_read, count_read, row_score_read, plain_read, places_read, enough_read, head_next}

not_at_most : (a b : ℕ) → b < a → nat_le a b ≡ false
not_at_most a b h = grind (arith, nat_tests)

-- ---- OP

op_head_read : (scale limit tours : ℕ) → scale ≤ 1000 → limit ≤ 240 → 1 ≤ tours → tours ≤ 32 → IsRead (op_head scale None (decimal limit ∷ decimal tours ∷ []))
unfolding op_head
op_head_read scale limit tours scale_low low some few =
    read_both _ _ (value_read scale limit scale_low low)
    (λ l. read_both _ _ (count_read tours some few) (λ t. ((l, t), refl)))

op_row_read : (limit number : ℕ) (l : List ℕ) → number < 302 → IsPlainLine l → IsRead (op_row limit number (map decimal l))
unfolding op_row
op_row_read limit number l early is =
    let read = plain_read limit (nat_lt number 2) l is in
    (read.0, ap (λ b. cond {A = Result Place FileCause} b (Err TooMany) (plain_place limit (nat_lt number 2) (map decimal l))) (not_at_most 302 number early) ∙ read.1)

abbrev op_ended : List Place → Result (List Place) Refusal
op_ended all = Ok (end_last all)

op_rows_read : (limit end line : ℕ) (ls : List (List ℕ)) → 2 ≤ length ls → length ls ≤ 302 → AllByRecursion IsPlainLine ls → IsRead (op_rows limit end (number_rows line (fields_of ls)))
unfolding op_rows
op_rows_read limit end line ls two few are =
    let r = places_read (op_row limit) IsPlainLine 302 (op_row_read limit) 0 line ls (omega arith) are in
    read_next _ _ (r.places, r.read) (end_last r.places, ap (λ q. q >>= op_ended) (enough_read 2 end r.places (omega (arith, r.count_is))))

op_read : (scale end : ℕ) (ls : List (List ℕ)) → scale ≤ 1000 → 2 ≤ length ls → length ls ≤ 302 → AllByRecursion IsPlainLine ls → IsRead (op_problem scale None end (number_rows 1 (map decimal (120 ∷ 2 ∷ []) ∷ fields_of ls)))
unfolding op_problem
op_read scale end ls scale_low two few are =
    let head = op_head_read scale 120 2 scale_low (omega arith) (omega arith) (omega arith) in
    let places = op_rows_read head.0.0 end 2 ls two few are in
    head_next (op_head scale None) end 1 _ _ _ head
    (read_next _ _ places (problem scale head.0.1 places.0, refl))

-- ---- TOP

row_count_read : (n : ℕ) → 2 ≤ n → n ≤ 302 → row_count (whole_number n) ≡ Ok n
row_count_read n two few =
    let last : Result ℕ FileCause = Ok (n * 10000 / 10000) in
    let units : n * 10000 / 10000 ≡ n = omega arith in
    ap (λ b. cond {A = Result ℕ FileCause} b (Err Head) (cond (nat_lt 3020000 (n * 10000)) (Err TooMany) last)) (not_below (n * 10000) 20000 (omega arith)) ∙
    ap (λ b. cond {A = Result ℕ FileCause} b (Err TooMany) last) (not_below 3020000 (n * 10000) (omega arith)) ∙ ap Ok units

top_count_read : (n : ℕ) → 2 ≤ n → n ≤ 302 → top_count (word_fields (codes "n") n) ≡ Ok n
unfolding top_count field_behind
top_count_read n two few = ap (λ r. r >>= row_count) (number_read n (omega arith)) ∙ row_count_read n two few

top_team_read : (n : ℕ) → 1 ≤ n → n ≤ 32 → IsRead (top_team None (word_fields (codes "m") n))
unfolding top_team field_behind
top_team_read n some few = count_read n some few

top_limit_read : (scale n : ℕ) → scale ≤ 1000 → n ≤ 240 → IsRead (top_limit scale (word_fields (codes "tmax") n))
unfolding top_limit field_behind
top_limit_read scale n scale_low low = value_read scale n scale_low low

top_row_read : (count limit number : ℕ) (l : List ℕ) → number < count → IsPlainLine l → IsRead (top_row count limit number (map decimal l))
unfolding top_row
top_row_read count limit number l early is =
    let is_end : Bool = nat_eq number 0 || nat_eq (number + 1) count in
    let read = plain_read limit is_end l is in
    (read.0, ap (λ b. cond {A = Result Place FileCause} b (Err RowCount) (plain_place limit is_end (map decimal l))) (not_at_most count number early) ∙ read.1)

top_rows_read : (count limit end line : ℕ) (ls : List (List ℕ)) → length ls ≡ count → AllByRecursion IsPlainLine ls → IsRead (top_rows count limit end (number_rows line (fields_of ls)))
unfolding top_rows
top_rows_read count limit end line ls counted are =
    let r = places_read (top_row count limit) IsPlainLine count (top_row_read count limit) 0 line ls (omega arith) are in
    read_next _ _ (r.places, r.read) (r.places, enough_read count end r.places (omega (arith, r.count_is)))

top_read : (scale count end : ℕ) (ls : List (List ℕ)) → scale ≤ 1000 → 2 ≤ count → count ≤ 302 → length ls ≡ count → AllByRecursion IsPlainLine ls → IsRead (top_problem scale None end (number_rows 1 (word_fields (codes "n") count ∷ word_fields (codes "m") 2 ∷ word_fields (codes "tmax") 60 ∷ fields_of ls)))
unfolding top_problem
top_read scale count end ls scale_low two few counted are =
    let team = top_team_read 2 (omega arith) (omega arith) in
    let limit = top_limit_read scale 60 scale_low (omega arith) in
    let places = top_rows_read count limit.0 end 4 ls counted are in
    head_next top_count end 1 _ _ _ (count, top_count_read count two few)
    (head_next (top_team None) end 2 _ _ _ team
    (head_next (top_limit scale) end 3 _ _ _ limit
    (read_next _ _ places (problem scale team.0 places.0, refl))))

-- ---- TOPTW

abbrev with_number : ℕ → ℕ → Result (ℕ × ℕ) FileCause
with_number number value = Ok (number, value)

time_read : (scale n : ℕ) → scale ≤ 1000 → n ≤ 240 → time_of scale (decimal n) ≡ Ok (n * 10000, scale * (n * 10000) / 10000)
unfolding time_of
time_read scale n scale_low low =
    ap (λ r. r >>= (λ (d : Decimal). scaled_value scale d.tenk >>= with_number (unsigned_abs d.tenk))) (number_read n (omega arith)) ∙
    ap (λ r. r >>= with_number (n * 10000)) (scaled_read scale n scale_low low)

abbrev in_order : ℕ × ℕ → ℕ × ℕ → Result (ℕ × ℕ) FileCause
in_order opening closing = cond (nat_lt closing.0 opening.0) (Err Window) (Ok (opening.1, closing.1))

window_read : (scale opening closing : ℕ) → scale ≤ 1000 → opening ≤ closing → closing ≤ 240 → IsRead (window_of scale (decimal opening) (decimal closing))
unfolding window_of
window_read scale opening closing scale_low ordered low =
    let first : ℕ × ℕ = (opening * 10000, scale * (opening * 10000) / 10000) in
    let last : ℕ × ℕ = (closing * 10000, scale * (closing * 10000) / 10000) in
    read_next _ _ (first, time_read scale opening scale_low (omega arith))
    (read_next _ _ (last, time_read scale closing scale_low low)
    ((first.1, last.1), ap (λ b. cond {A = Result (ℕ × ℕ) FileCause} b (Err Window) (Ok (first.1, last.1))) (not_below (closing * 10000) (opening * 10000) (omega arith))))

service_read : (scale : ℕ) (is_start : Bool) (service : ℕ) → scale ≤ 1000 → service ≤ 10 → IsRead (row_service scale is_start (decimal service))
service_read scale true service scale_low low = (0, refl)
service_read scale false service scale_low low = value_read scale service scale_low (omega arith)

windowed_read : (scale : ℕ) (is_start : Bool) (l : List ℕ) → scale ≤ 1000 → IsWindowedLine l → IsRead (windowed_place scale is_start (map decimal l))
unfolding windowed_place
windowed_read scale is_start l scale_low is =
    let read : IsRead (windowed_place scale is_start (map decimal (is.number ∷ is.x ∷ is.y ∷ is.service ∷ is.score ∷ 0 ∷ 0 ∷ is.opening ∷ is.closing ∷ []))) =
    read_both _ _ (coordinate_read is.x (omega (arith, is.x_low)))
    (λ x. read_both _ _ (coordinate_read is.y (omega (arith, is.y_low)))
    (λ y. read_both _ _ (service_read scale is_start is.service scale_low is.service_low)
    (λ service. read_both _ _ (row_score_read is_start is.score is.score_low)
    (λ score. read_both _ _ (window_read scale is.opening is.closing scale_low is.in_order is.closing_low)
    (λ window. (record { x = x; y = y; score = score; service = service; opening = window.0; closing = window.1 }, refl)))))) in
    (read.0, ap (λ (ns : List ℕ). windowed_place scale is_start (map decimal ns)) is.line_is ∙ read.1)

toptw_row_read : (scale : ℕ) → scale ≤ 1000 → (number : ℕ) (l : List ℕ) → number < 301 → IsWindowedLine l → IsRead (toptw_row scale number (map decimal l))
unfolding toptw_row
toptw_row_read scale scale_low number l early is =
    let read = windowed_read scale (nat_eq number 0) l scale_low is in
    (read.0, ap (λ b. cond {A = Result Place FileCause} b (Err TooMany) (windowed_place scale (nat_eq number 0) (map decimal l))) (not_at_most 301 number early) ∙ read.1)

abbrev toptw_ended : List Place → Result (List Place) Refusal
toptw_ended all = Ok (start_again all)

toptw_rows_read : (scale end line : ℕ) (ls : List (List ℕ)) → scale ≤ 1000 → 1 ≤ length ls → length ls ≤ 301 → AllByRecursion IsWindowedLine ls → IsRead (toptw_rows scale end (number_rows line (fields_of ls)))
unfolding toptw_rows
toptw_rows_read scale end line ls scale_low one few are =
    let r = places_read (toptw_row scale) IsWindowedLine 301 (toptw_row_read scale scale_low) 0 line ls (omega arith) are in
    read_next _ _ (r.places, r.read) (start_again r.places, ap (λ q. q >>= toptw_ended) (enough_read 1 end r.places (omega (arith, r.count_is))))

toptw_head_read : (places : ℕ) → IsRead (toptw_head None (map decimal (0 ∷ 2 ∷ places ∷ 0 ∷ [])))
unfolding toptw_head
toptw_head_read places = count_read 2 (omega arith) (omega arith)

toptw_read : (scale places end : ℕ) (ls : List (List ℕ)) → scale ≤ 1000 → 1 ≤ length ls → length ls ≤ 301 → AllByRecursion IsWindowedLine ls → IsRead (toptw_problem scale None end (number_rows 1 (map decimal (0 ∷ 2 ∷ places ∷ 0 ∷ []) ∷ map decimal (0 ∷ 0 ∷ []) ∷ fields_of ls)))
unfolding toptw_problem
toptw_read scale places end ls scale_low one few are =
    let head = toptw_head_read places in
    let read = toptw_rows_read scale end 3 ls scale_low one few are in
    head_next (toptw_head None) end 1 _ _ _ head
    (head_next unread end 2 _ _ _ (tt, refl)
    (read_next _ _ read (problem scale head.0 read.0, refl)))

-- ---- every format

rows_read : (format : Format) (scale seed calls end : ℕ) → scale ≤ 1000 → calls ≤ 300 → IsRead (rows_problem format scale None end (number_rows 1 (file_lines seed calls format)))
unfolding rows_problem
rows_read Op scale seed calls end scale_low few =
    let counted = op_counted seed calls in
    op_read scale end (op_places seed calls) scale_low (omega arith) (omega arith) (op_are_plain seed calls)
rows_read Top scale seed calls end scale_low few =
    top_read scale (calls + 2) end (top_places seed calls) scale_low (omega arith) (omega arith) (top_counted seed calls) (top_are_plain seed calls)
rows_read Toptw scale seed calls end scale_low few =
    let counted = toptw_counted seed calls in
    toptw_read scale (calls + 1) end (toptw_places seed calls) scale_low (omega arith) (omega arith) (toptw_are_windowed seed calls few)

pub generated_files_are_read : GeneratedFilesAreRead
unfolding file_problem
generated_files_are_read format scale seed calls scale_low few =
    let end : ℕ = end_from 1 (generated seed calls format) in
    let lines : List (List (List ℕ)) = file_lines seed calls format in
    let cut : rows_from 1 (generated seed calls format) ≡ number_rows 1 lines = ap (rows_from 1) (file_text seed calls format) ∙ rows_cut 1 lines (file_is_lines seed calls format few) in
    let read = rows_read format scale seed calls end scale_low few in
    (read.0, ap (λ (rows : List Row). rows_problem format scale None end rows) cut ∙ read.1)
