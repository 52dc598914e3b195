-- What a file says is an instance.
use Rattle.std.proofs.Common.{◌≡◌, ℕ, suc, ◌+◌, ◌-◌, ◌/◌, ◌<◌, ◌≤◌, ◌||◌, inl, inr, Bool, true, false, cond, not, List, [], ◌∷◌, ◌++◌, length, get_or, unsigned_abs, Option, Result, Ok, Err, eqb, ltb, refl, sym, ap, ◌∙◌, subst, arith, length-append}
use Rattle.std.specs.Prelude.{codes}
use Rattle.std.specs.List.{All}
use Rattle.std.proofs.Math.Seq.{get_or-append_seam}
use Rattle.std.proofs.lemmas.Bool.{ltb-false, leb-false}
use Rattle.std.proofs.lemmas.Bool.Decides.{nat_tests}
use Rattle.std.proofs.lemmas.List.Elements.{All-append, All-cons}
use Rattle.orienteering.specs.Instance.{Problem, site, nowhere, end_place}
use Rattle.orienteering.specs.Limits.{IsInstance, IsScale, IsPlaceWithinLimits, IsBare, most_members, latest}
use Rattle.orienteering.specs.declared.Place.{Place}
use Rattle.fixed_num.specs.Length.{scale_number}
use Rattle.fixed_num.specs.declared.decimal.Decimal.{Decimal}
use Rattle.fixed_num.specs.declared.length.Scale.{Scale}
use Rattle.fixed_num.specs.declared.length.Scale.TheVariants.{One, Ten, Hundred, Thousand}
use Rattle.instance_files.specs.Lines.{Row, rows_from, end_from}
use Rattle.instance_files.specs.Values.{◌>>=◌, number_of, value_of, is_negative}
use Rattle.instance_files.specs.Rows.{Refusal, refusal, field_at, head_line, places_of, tours_of, enough, problem, IsTeam}
use Rattle.instance_files.specs.Op.{op_head, op_row, op_rows, op_problem, end_last}
use Rattle.instance_files.specs.Top.{field_behind, row_count, top_count, top_team, top_limit, top_row, top_rows, top_problem}
use Rattle.instance_files.specs.Toptw.{toptw_head, unread, toptw_row, toptw_rows, toptw_problem, start_again}
use Rattle.instance_files.specs.File.{rows_problem, file_problem}
use Rattle.instance_files.specs.Laws.{FilesAreInstances}
use Rattle.instance_files.specs.declared.file.Format.{Format}
use Rattle.instance_files.specs.declared.file.Format.TheVariants.{Op, Top, Toptw}
use Rattle.instance_files.specs.declared.values.FileCause.{FileCause}
use Rattle.instance_files.specs.declared.values.FileCause.TheVariants.{Head, RowCount, TooMany}
use Rattle.instance_files.proofs.SoundValues.{bound, passed, value-low, tours-within}
use Rattle.instance_files.proofs.SoundRows.{IsRowPlace, IsOpRow, IsTopRow, IsToptwRow, op-row-fits, top-row-fits, toptw-row-fits, places-fit, head-read}

-- a number of members, and the scale
record IsSetting (scale team : ℕ) : Type 0 where
  known : IsScale scale
  some : 1 ≤ team
  few : team ≤ most_members

-- a start, calls and an end make an instance
ends-instance : (scale team : ℕ) (start end : Place) (calls : List Place) → IsSetting scale team → IsRowPlace true start → IsRowPlace true end →
    All IsPlaceWithinLimits calls → length calls ≤ 300 → start.opening ≤ end.closing → IsInstance (problem scale team (start ∷ calls ++ end ∷ []))
ends-instance scale team start end calls setting first last each few window =
    let p = problem scale team (start ∷ calls ++ end ∷ []) in
    let count : length (start ∷ calls ++ end ∷ []) ≡ length calls + 2 = omega (arith, length-append calls (end ∷ [])) in
    let place : end_place p ≡ suc (length calls) = omega (arith, count) in
    let at_end : site p (end_place p) ≡ end = ap (site p) place ∙ get_or-append_seam calls end [] nowhere in
    record {
      scale = setting.known;
      some_member = setting.some;
      few_members = setting.few;
      both_ends = omega (arith, count);
      few_calls = omega (arith, count);
      places = All-cons IsPlaceWithinLimits start (calls ++ end ∷ []) first.limits
          (All-append IsPlaceWithinLimits calls (end ∷ []) each (All-cons IsPlaceWithinLimits end [] last.limits (λ k d lt. absurd (omega arith))));
      start = first.bare refl;
      end = subst IsBare (sym at_end) (last.bare refl);
      window = subst (λ (e : Place). start.opening ≤ e.closing) (sym at_end) window;
    }

-- ---- the OP profile

op-places : (scale team : ℕ) (places : List Place) → IsSetting scale team → 2 ≤ length places →
    ((k : ℕ) (d : Place) → k < length places → IsOpRow k (get_or places k d)) → IsInstance (problem scale team (end_last places))
op-places scale team [] setting some rows = absurd (omega arith)
op-places scale team (start ∷ []) setting some rows = absurd (omega arith)
op-places scale team (start ∷ end ∷ calls) setting some rows =
    let first = rows 0 nowhere (omega arith) in
    let last = rows 1 nowhere (omega arith) in
    let most = rows (length calls + 1) nowhere (omega arith) in
    ends-instance scale team start end calls setting first.fits last.fits
    (λ k d lt. (rows (suc (suc k)) d (omega arith)).fits.limits) (omega (arith, most.few)) (omega (arith, first.opens))

op-head-fits : (scale : ℕ) (team : Option ℕ) (fields : List (List ℕ)) (head : ℕ × ℕ) → IsTeam team → op_head scale team fields ≡ Ok head →
    (head.0 ≤ latest) × (1 ≤ head.1) × (head.1 ≤ most_members)
unfolding op_head
op-head-fits scale team fields head given h =
    let k = passed (not (eqb (length fields) 2)) Head (value_of scale (field_at fields 0) >>= λ limit. tours_of team (field_at fields 1) >>= λ tours. Ok (limit, tours)) head h in
    let s = bound (value_of scale (field_at fields 0)) (λ limit. tours_of team (field_at fields 1) >>= λ tours. Ok (limit, tours)) head k.1 in
    let t = bound (tours_of team (field_at fields 1)) (λ tours. Ok (s.0, tours)) head s.1.1 in
    let pair : ℕ × ℕ = (s.0, t.0) in
    let same : pair ≡ head = cc (t.1.1) in
    let tours = tours-within team (field_at fields 1) t.0 given t.1.0 in
    rw (← same) (value-low scale (field_at fields 0) s.0 s.1.0, tours.0, tours.1)

op-rows-fit : (scale team limit end : ℕ) (rows : List Row) (places : List Place) → IsSetting scale team → limit ≤ latest → op_rows limit end rows ≡ Ok places →
    IsInstance (problem scale team places)
unfolding op_rows
op-rows-fit scale team limit end rows places setting low h =
    let s = bound (places_of (op_row limit) 0 rows) (λ read. enough 2 end read >>= λ all. Ok (end_last all)) places h in
    let t = bound (enough 2 end s.0) (λ all. Ok (end_last all)) places s.1.1 in
    let k = passed (ltb (length s.0) 2) (refusal end RowCount) (Ok s.0) t.0 t.1.0 in
    let same : s.0 ≡ t.0 = cc (k.1) in
    let last : end_last t.0 ≡ places = cc (t.1.1) in
    let fits = places-fit (op_row limit) IsOpRow (op-row-fits limit low) 0 rows s.0 s.1.0 in
    rw (← last, ← same) (op-places scale team s.0 setting (ltb-false (length s.0) 2 k.0) (λ k d lt. from_zero k (get_or s.0 k d) (fits k d lt)))
  where
    from_zero : (k : ℕ) (place : Place) → IsOpRow (0 + k) place → IsOpRow k place
    from_zero k place is = let none : 0 + k ≡ k = omega arith in subst (λ (n : ℕ). IsOpRow n place) none is

op-sound : (scale : ℕ) (team : Option ℕ) (end : ℕ) (rows : List Row) (p : Problem) → IsScale scale → IsTeam team → op_problem scale team end rows ≡ Ok p → IsInstance p
unfolding op_problem
op-sound scale team end rows p known given h =
    let s = bound (head_line (op_head scale team) end rows) (λ head. op_rows head.0.0 end head.1 >>= λ places. Ok (problem scale head.0.1 places)) p h in
    let t = bound (op_rows s.0.0.0 end s.0.1) (λ places. Ok (problem scale s.0.0.1 places)) p s.1.1 in
    let same : problem scale s.0.0.1 t.0 ≡ p = cc (t.1.1) in
    let read = head-read (op_head scale team) end rows s.0 s.1.0 in
    let head = op-head-fits scale team read.0 s.0.0 given read.1 in
    rw (← same) (op-rows-fit scale s.0.0.1 s.0.0.0 end s.0.1 t.0 (record { known = known; some = head.1; few = head.2 }) head.0 t.1.0)

-- ---- the TOP profile

top-places : (scale team count : ℕ) (places : List Place) → IsSetting scale team → 2 ≤ count → count ≤ 302 → count ≤ length places →
    ((k : ℕ) (d : Place) → k < length places → IsTopRow count k (get_or places k d)) → IsInstance (problem scale team places)
top-places scale team count places setting some most enough rows =
    let p = problem scale team places in
    let last = rows (length places - 1) nowhere (omega arith) in
    let exact : length places ≡ count = omega (arith, last.few) in
    let place : end_place p ≡ length places - 1 = omega arith in
    let first = rows 0 nowhere (omega arith) in
    record {
      scale = setting.known;
      some_member = setting.some;
      few_members = setting.few;
      both_ends = omega arith;
      few_calls = omega arith;
      places = λ k d lt. (rows k d lt).fits.limits;
      start = first.fits.bare refl;
      end = subst (λ (n : ℕ). IsBare (site p n)) (sym place) (last.fits.bare (is_last (length places) count exact (omega arith)));
      window = omega (arith, first.opens);
    }
  where
    is_last : (n count : ℕ) → n ≡ count → 0 < n → (eqb (n - 1) 0 || eqb (n - 1 + 1) count) ≡ true
    is_last n count same some = let back : n - 1 + 1 ≡ count = omega arith in grind (arith, nat_tests)

or-false : (s t : Bool) → (s || t) ≡ false → (s ≡ false) × (t ≡ false)
or-false false t h = (refl, h)
or-false true t h = absurd cc

row-count-fits : (d : Decimal) (n : ℕ) → row_count d ≡ Ok n → (2 ≤ n) × (n ≤ 302)
row-count-fits d n h =
    let k = passed (not d.whole || is_negative d.tenk || ltb (unsigned_abs d.tenk) 20000) Head (cond (ltb 3020000 (unsigned_abs d.tenk)) (Err TooMany) (Ok (unsigned_abs d.tenk / 10000))) n h in
    let m = passed (ltb 3020000 (unsigned_abs d.tenk)) TooMany (Ok (unsigned_abs d.tenk / 10000)) n k.1 in
    let same : unsigned_abs d.tenk / 10000 ≡ n = cc (m.1) in
    let least = ltb-false (unsigned_abs d.tenk) 20000 (or-false (not d.whole || is_negative d.tenk) (ltb (unsigned_abs d.tenk) 20000) k.0).1 in
    let most = ltb-false 3020000 (unsigned_abs d.tenk) m.0 in
    (omega (arith, same, least), omega (arith, same, most))

top-count-fits : (fields : List (List ℕ)) (n : ℕ) → top_count fields ≡ Ok n → (2 ≤ n) × (n ≤ 302)
unfolding top_count
top-count-fits fields n h =
    let s = bound (field_behind (codes "n") fields) (λ field. number_of field >>= row_count) n h in
    let t = bound (number_of s.0) row_count n s.1.1 in
    row-count-fits t.0 n t.1.1

top-team-fits : (team : Option ℕ) (fields : List (List ℕ)) (m : ℕ) → IsTeam team → top_team team fields ≡ Ok m → (1 ≤ m) × (m ≤ most_members)
unfolding top_team
top-team-fits team fields m given h =
    let s = bound (field_behind (codes "m") fields) (tours_of team) m h in
    tours-within team s.0 m given s.1.1

top-limit-fits : (scale : ℕ) (fields : List (List ℕ)) (limit : ℕ) → top_limit scale fields ≡ Ok limit → limit ≤ latest
unfolding top_limit
top-limit-fits scale fields limit h =
    let s = bound (field_behind (codes "tmax") fields) (value_of scale) limit h in
    value-low scale s.0 limit s.1.1

top-rows-fit : (scale team count limit end : ℕ) (rows : List Row) (places : List Place) → IsSetting scale team → 2 ≤ count → count ≤ 302 → limit ≤ latest →
    top_rows count limit end rows ≡ Ok places → IsInstance (problem scale team places)
unfolding top_rows
top-rows-fit scale team count limit end rows places setting some most low h =
    let s = bound (places_of (top_row count limit) 0 rows) (enough count end) places h in
    let k = passed (ltb (length s.0) count) (refusal end RowCount) (Ok s.0) places s.1.1 in
    let same : s.0 ≡ places = cc (k.1) in
    let fits = places-fit (top_row count limit) (IsTopRow count) (top-row-fits count limit low) 0 rows s.0 s.1.0 in
    rw (← same) (top-places scale team count s.0 setting some most (ltb-false (length s.0) count k.0) (λ j d lt. from_zero j (get_or s.0 j d) (fits j d lt)))
  where
    from_zero : (k : ℕ) (place : Place) → IsTopRow count (0 + k) place → IsTopRow count k place
    from_zero k place is = let none : 0 + k ≡ k = omega arith in subst (λ (n : ℕ). IsTopRow count n place) none is

top-sound : (scale : ℕ) (team : Option ℕ) (end : ℕ) (rows : List Row) (p : Problem) → IsScale scale → IsTeam team → top_problem scale team end rows ≡ Ok p → IsInstance p
unfolding top_problem
top-sound scale team end rows p known given h =
    let n = bound (head_line top_count end rows) (λ count. head_line (top_team team) end count.1 >>= λ tours. head_line (top_limit scale) end tours.1 >>= λ limit. top_rows count.0 limit.0 end limit.1 >>= λ places. Ok (problem scale tours.0 places)) p h in
    let m = bound (head_line (top_team team) end n.0.1) (λ tours. head_line (top_limit scale) end tours.1 >>= λ limit. top_rows n.0.0 limit.0 end limit.1 >>= λ places. Ok (problem scale tours.0 places)) p n.1.1 in
    let l = bound (head_line (top_limit scale) end m.0.1) (λ limit. top_rows n.0.0 limit.0 end limit.1 >>= λ places. Ok (problem scale m.0.0 places)) p m.1.1 in
    let t = bound (top_rows n.0.0 l.0.0 end l.0.1) (λ places. Ok (problem scale m.0.0 places)) p l.1.1 in
    let same : problem scale m.0.0 t.0 ≡ p = cc (t.1.1) in
    let first = head-read top_count end rows n.0 n.1.0 in
    let second = head-read (top_team team) end n.0.1 m.0 m.1.0 in
    let third = head-read (top_limit scale) end m.0.1 l.0 l.1.0 in
    let count = top-count-fits first.0 n.0.0 first.1 in
    let tours = top-team-fits team second.0 m.0.0 given second.1 in
    let low = top-limit-fits scale third.0 l.0.0 third.1 in
    rw (← same) (top-rows-fit scale m.0.0 n.0.0 l.0.0 end l.0.1 t.0 (record { known = known; some = tours.0; few = tours.1 }) count.0 count.1 low t.1.0)

-- ---- the TOPTW profile

toptw-places : (scale team : ℕ) (places : List Place) → IsSetting scale team → 1 ≤ length places →
    ((k : ℕ) (d : Place) → k < length places → IsToptwRow k (get_or places k d)) → IsInstance (problem scale team (start_again places))
toptw-places scale team [] setting some rows = absurd (omega arith)
toptw-places scale team (start ∷ calls) setting some rows =
    let first = rows 0 nowhere (omega arith) in
    let most = rows (length calls) nowhere (omega arith) in
    ends-instance scale team start start calls setting first.fits first.fits
    (λ k d lt. (rows (suc k) d (omega arith)).fits.limits) (omega (arith, most.few)) first.fits.limits.window

toptw-head-fits : (team : Option ℕ) (fields : List (List ℕ)) (m : ℕ) → IsTeam team → toptw_head team fields ≡ Ok m → (1 ≤ m) × (m ≤ most_members)
unfolding toptw_head
toptw-head-fits team fields m given h =
    let k = passed (ltb (length fields) 2) Head (tours_of team (field_at fields 1)) m h in
    tours-within team (field_at fields 1) m given k.1

toptw-rows-fit : (scale team end : ℕ) (rows : List Row) (places : List Place) → IsSetting scale team → toptw_rows scale end rows ≡ Ok places → IsInstance (problem scale team places)
unfolding toptw_rows
toptw-rows-fit scale team end rows places setting h =
    let s = bound (places_of (toptw_row scale) 0 rows) (λ read. enough 1 end read >>= λ all. Ok (start_again all)) places h in
    let t = bound (enough 1 end s.0) (λ all. Ok (start_again all)) places s.1.1 in
    let k = passed (ltb (length s.0) 1) (refusal end RowCount) (Ok s.0) t.0 t.1.0 in
    let same : s.0 ≡ t.0 = cc (k.1) in
    let last : start_again t.0 ≡ places = cc (t.1.1) in
    let fits = places-fit (toptw_row scale) IsToptwRow (toptw-row-fits scale) 0 rows s.0 s.1.0 in
    rw (← last, ← same) (toptw-places scale team s.0 setting (ltb-false (length s.0) 1 k.0) (λ k d lt. from_zero k (get_or s.0 k d) (fits k d lt)))
  where
    from_zero : (k : ℕ) (place : Place) → IsToptwRow (0 + k) place → IsToptwRow k place
    from_zero k place is = let none : 0 + k ≡ k = omega arith in subst (λ (n : ℕ). IsToptwRow n place) none is

toptw-sound : (scale : ℕ) (team : Option ℕ) (end : ℕ) (rows : List Row) (p : Problem) → IsScale scale → IsTeam team → toptw_problem scale team end rows ≡ Ok p → IsInstance p
unfolding toptw_problem
toptw-sound scale team end rows p known given h =
    let m = bound (head_line (toptw_head team) end rows) (λ tours. head_line unread end tours.1 >>= λ second. toptw_rows scale end second.1 >>= λ places. Ok (problem scale tours.0 places)) p h in
    let s = bound (head_line unread end m.0.1) (λ second. toptw_rows scale end second.1 >>= λ places. Ok (problem scale m.0.0 places)) p m.1.1 in
    let t = bound (toptw_rows scale end s.0.1) (λ places. Ok (problem scale m.0.0 places)) p s.1.1 in
    let same : problem scale m.0.0 t.0 ≡ p = cc (t.1.1) in
    let first = head-read (toptw_head team) end rows m.0 m.1.0 in
    let tours = toptw-head-fits team first.0 m.0.0 given first.1 in
    rw (← same) (toptw-rows-fit scale m.0.0 end s.0.1 t.0 (record { known = known; some = tours.0; few = tours.1 }) t.1.0)

-- ---- all profiles

rows-sound : (format : Format) (scale : ℕ) (team : Option ℕ) (end : ℕ) (rows : List Row) (p : Problem) → IsScale scale → IsTeam team →
    rows_problem format scale team end rows ≡ Ok p → IsInstance p
unfolding rows_problem
rows-sound Op scale team end rows p known given h = op-sound scale team end rows p known given h
rows-sound Top scale team end rows p known given h = top-sound scale team end rows p known given h
rows-sound Toptw scale team end rows p known given h = toptw-sound scale team end rows p known given h

pub files_are_instances : FilesAreInstances
unfolding file_problem
files_are_instances format scale team bytes p known given h = rows-sound format scale team (end_from 1 bytes) (rows_from 1 bytes) p known given h

pub known_scale : (s : Scale) → IsScale (scale_number s)
known_scale One = inl refl
known_scale Ten = inr (inl refl)
known_scale Hundred = inr (inr (inl refl))
known_scale Thousand = inr (inr (inr refl))
