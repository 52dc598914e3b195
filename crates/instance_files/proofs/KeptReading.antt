-- The profiles read the same of the fields that are kept.
use Rattle.std.proofs.Common.{◌≡◌, ℕ, suc, ◌+◌, ◌-◌, ◌<◌, ◌≤◌, cond, eqb, leb, ltb, not, ◌&&◌, ◌||◌, inl, inr, Bool, true, false, List, [], ◌∷◌, length, map, Option, Result, Ok, Err, refl, sym, ap, ap₂, ◌∙◌, arith}
use Rattle.std.specs.Str.{bytes_eq}
use Rattle.std.proofs.lemmas.Bool.{cases_lt, lt-leb}
use Rattle.std.proofs.lemmas.Bool.Decides.{nat_tests}
use Rattle.orienteering.specs.Instance.{Problem}
use Rattle.orienteering.specs.declared.Place.{Place}
use Rattle.instance_files.specs.Lines.{Row}
use Rattle.instance_files.specs.Values.{◌>>=◌, number_of, value_of}
use Rattle.instance_files.specs.Rows.{Refusal, refusal, at_line, field_at, head_line, places_of, RowReading, tours_of, enough, problem}
use Rattle.instance_files.specs.Op.{op_head, op_problem, op_row, op_rows, end_last, plain_place}
use Rattle.instance_files.specs.Top.{field_behind, row_count, top_count, top_limit, top_problem, top_row, top_rows, top_team}
use Rattle.instance_files.specs.Toptw.{start_again, toptw_head, toptw_problem, toptw_row, toptw_rows, unread, windowed_place}
use Rattle.instance_files.specs.File.{file_problem, rows_problem}
use Rattle.instance_files.specs.Kept.{kept, kept_row}
use Rattle.instance_files.specs.Ahead.{ahead}
use Rattle.instance_files.specs.declared.file.Format.{Format}
use Rattle.instance_files.specs.declared.file.Format.TheVariants.{Op, Top, Toptw}
use Rattle.instance_files.specs.declared.values.FileCause.{FileCause}
use Rattle.instance_files.proofs.KeptFields.{AreEnds, kept-few, kept-many}

-- a reading that is the same of seven fields and of the many that they are the ends of
reads-kept : {A : Type 0} → (read : List (List ℕ) → A) → ((ks fs : List (List ℕ)) → AreEnds ks fs → read ks ≡ read fs) →
    (fs : List (List ℕ)) → read (kept fs) ≡ read fs
reads-kept read same fs =
    elim (cases_lt 7 (length fs)) [
      | inl many ↦ same (kept fs) fs (kept-many fs many)
      | inr few ↦ ap read (kept-few fs few)
    ]

-- seven fields and more aren't so few
not_so_few : (n k : ℕ) → k < n → eqb n k ≡ false
not_so_few n k lt = grind (arith, nat_tests)

-- ---- single lines

op-head : (scale : ℕ) (team : Option ℕ) (ks fs : List (List ℕ)) → AreEnds ks fs → op_head scale team ks ≡ op_head scale team fs
unfolding op_head
op-head scale team ks fs e = rw (not_so_few (length ks) 2 (omega (arith, e.seven)), not_so_few (length fs) 2 (omega (arith, e.many))) refl

field-behind : (word : List ℕ) (ks fs : List (List ℕ)) → AreEnds ks fs → field_behind word ks ≡ field_behind word fs
unfolding field_behind
field-behind word ks fs e = rw (not_so_few (length ks) 2 (omega (arith, e.seven)), not_so_few (length fs) 2 (omega (arith, e.many))) refl

top-count : (ks fs : List (List ℕ)) → AreEnds ks fs → top_count ks ≡ top_count fs
unfolding top_count
top-count ks fs e = rw (field-behind _ ks fs e) refl

top-team : (team : Option ℕ) (ks fs : List (List ℕ)) → AreEnds ks fs → top_team team ks ≡ top_team team fs
unfolding top_team
top-team team ks fs e = rw (field-behind _ ks fs e) refl

top-limit : (scale : ℕ) (ks fs : List (List ℕ)) → AreEnds ks fs → top_limit scale ks ≡ top_limit scale fs
unfolding top_limit
top-limit scale ks fs e = rw (field-behind _ ks fs e) refl

toptw-head : (team : Option ℕ) (ks fs : List (List ℕ)) → AreEnds ks fs → toptw_head team ks ≡ toptw_head team fs
unfolding toptw_head
toptw-head team ks fs e =
    rw (lt-leb (suc (length ks)) 2 (omega (arith, e.seven)), lt-leb (suc (length fs)) 2 (omega (arith, e.many))) (ap (tours_of team) (e.front 1 (omega arith)))

plain-place : (limit : ℕ) (is_end : Bool) (ks fs : List (List ℕ)) → AreEnds ks fs → plain_place limit is_end ks ≡ plain_place limit is_end fs
unfolding plain_place
plain-place limit is_end ks fs e = rw (not_so_few (length ks) 3 (omega (arith, e.seven)), not_so_few (length fs) 3 (omega (arith, e.many))) refl

windowed-place : (scale : ℕ) (is_start : Bool) (ks fs : List (List ℕ)) → AreEnds ks fs → windowed_place scale is_start ks ≡ windowed_place scale is_start fs
unfolding windowed_place
windowed-place scale is_start ks fs e =
    rw (
      lt-leb (suc (length ks)) 7 (omega (arith, e.seven)),
      lt-leb (suc (length fs)) 7 (omega (arith, e.many)),
      e.before_last,
      e.last,
      e.front 1 (omega arith),
      e.front 2 (omega arith),
      e.front 3 (omega arith),
      e.front 4 (omega arith),
    ) refl

op-row : (limit n : ℕ) (ks fs : List (List ℕ)) → AreEnds ks fs → op_row limit n ks ≡ op_row limit n fs
unfolding op_row
op-row limit n ks fs e = rw (plain-place limit (ltb n 2) ks fs e) refl

top-row : (count limit n : ℕ) (ks fs : List (List ℕ)) → AreEnds ks fs → top_row count limit n ks ≡ top_row count limit n fs
unfolding top_row
top-row count limit n ks fs e = rw (plain-place limit (eqb n 0 || eqb (n + 1) count) ks fs e) refl

toptw-row : (scale n : ℕ) (ks fs : List (List ℕ)) → AreEnds ks fs → toptw_row scale n ks ≡ toptw_row scale n fs
unfolding toptw_row
toptw-row scale n ks fs e = rw (windowed-place scale (eqb n 0) ks fs e) refl

-- ---- all lines

places-kept : (read : RowReading) → ((n : ℕ) (ks fs : List (List ℕ)) → AreEnds ks fs → read n ks ≡ read n fs) →
    (n : ℕ) (rows : List Row) → places_of read n (map kept_row rows) ≡ places_of read n rows
unfolding places_of
places-kept read same n [] = refl
places-kept read same n (row ∷ rows) =
    ap₂ (λ (r : Result Place FileCause) (others : Result (List Place) Refusal). at_line row.line r >>= λ place. others >>= λ more. Ok (place ∷ more))
    (reads-kept (read n) (same n) row.fields) (places-kept read same (n + 1) rows)

head-kept : {A B : Type 0} → (read : List (List ℕ) → Result A FileCause) → ((ks fs : List (List ℕ)) → AreEnds ks fs → read ks ≡ read fs) →
    (end : ℕ) (rows : List Row) (f : A × List Row → Result B Refusal) → ((x : A) (rest : List Row) → f (x, map kept_row rest) ≡ f (x, rest)) →
    (head_line read end (map kept_row rows) >>= f) ≡ (head_line read end rows >>= f)
unfolding head_line
head-kept read same end [] f rest = refl
head-kept {A} {B} read same end (row ∷ rows) f rest =
    ap (λ (r : Result A FileCause). (at_line row.line r >>= λ x. Ok (x, map kept_row rows)) >>= f) (reads-kept read same row.fields) ∙ by_case (read row.fields)
  where
    by_case : (r : Result A FileCause) → ((at_line row.line r >>= λ x. Ok (x, map kept_row rows)) >>= f) ≡ ((at_line row.line r >>= λ x. Ok (x, rows)) >>= f)
    by_case (Ok x) = rest x rows
    by_case (Err cause) = refl

op-kept : (scale : ℕ) (team : Option ℕ) (end : ℕ) (rows : List Row) → op_problem scale team end (map kept_row rows) ≡ op_problem scale team end rows
unfolding op_problem op_rows
op-kept scale team end rows =
    head-kept (op_head scale team) (op-head scale team) end rows _
    (λ head rest. rw (places-kept (op_row head.0) (op-row head.0) 0 rest) refl)

top-kept : (scale : ℕ) (team : Option ℕ) (end : ℕ) (rows : List Row) → top_problem scale team end (map kept_row rows) ≡ top_problem scale team end rows
unfolding top_problem top_rows
top-kept scale team end rows =
    head-kept top_count top-count end rows _ (λ count rest.
    head-kept (top_team team) (top-team team) end rest _ (λ tours more.
    head-kept (top_limit scale) (top-limit scale) end more _ (λ limit left.
    rw (places-kept (top_row count limit) (top-row count limit) 0 left) refl)))

toptw-kept : (scale : ℕ) (team : Option ℕ) (end : ℕ) (rows : List Row) → toptw_problem scale team end (map kept_row rows) ≡ toptw_problem scale team end rows
unfolding toptw_problem toptw_rows
toptw-kept scale team end rows =
    head-kept (toptw_head team) (toptw-head team) end rows _ (λ tours rest.
    head-kept unread (λ ks fs e. refl) end rest _ (λ second more.
    rw (places-kept (toptw_row scale) (toptw-row scale) 0 more) refl))

rows-kept : (format : Format) (scale : ℕ) (team : Option ℕ) (end : ℕ) (rows : List Row) → rows_problem format scale team end (map kept_row rows) ≡ rows_problem format scale team end rows
unfolding rows_problem
rows-kept Op scale team end rows = op-kept scale team end rows
rows-kept Top scale team end rows = top-kept scale team end rows
rows-kept Toptw scale team end rows = toptw-kept scale team end rows

-- what is read of the fields that are kept is what the file says
pub file-kept : (format : Format) (scale : ℕ) (team : Option ℕ) (bytes : List ℕ) →
    rows_problem format scale team (ahead 1 bytes).end (ahead 1 bytes).rows ≡ file_problem format scale team bytes
unfolding ahead file_problem
file-kept format scale team bytes = rows-kept format scale team _ _
