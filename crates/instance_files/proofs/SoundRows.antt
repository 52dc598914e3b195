-- What a row gives is a place within the limits.
use Rattle.std.proofs.Common.{◌≡◌, ℕ, zero, suc, ◌+◌, ◌-◌, ◌*◌, ◌/◌, ◌<◌, ◌≤◌, ◌||◌, Bool, true, false, cond, not, List, [], ◌∷◌, length, get_or, ℤ, unsigned_abs, Option, Result, Ok, Err, eqb, ltb, leb, refl, sym, ap, subst, arith}
use Rattle.std.proofs.Math.Nat.{mul-le-mul_left}
use Rattle.std.proofs.lemmas.Bool.{leb-false, ltb-false}
use Rattle.orienteering.specs.Limits.{IsPlaceWithinLimits, IsBare, most_score, latest}
use Rattle.orienteering.specs.declared.Place.{Place}
use Rattle.fixed_num.specs.declared.decimal.Decimal.{Decimal}
use Rattle.instance_files.specs.Lines.{Row}
use Rattle.instance_files.specs.Values.{◌>>=◌, number_of, scaled, scaled_value, value_of, coordinate_of, score_of}
use Rattle.instance_files.specs.Rows.{Refusal, at_line, field_at, head_line, places_of, RowReading}
use Rattle.instance_files.specs.Op.{row_score, open_place, plain_place, op_row}
use Rattle.instance_files.specs.Top.{top_row}
use Rattle.instance_files.specs.Toptw.{row_service, time_of, window_of, windowed_place, toptw_row}
use Rattle.instance_files.specs.declared.values.FileCause.{FileCause}
use Rattle.instance_files.specs.declared.values.FileCause.TheVariants.{Fields, RowCount, TooMany, Window}
use Rattle.instance_files.proofs.SoundValues.{bound, passed, coordinate-low, value-low, scaled-low, score-low}

-- a place within the limits, and bare where it is an end
pub record IsRowPlace (is_end : Bool) (place : Place) : Type 0 where
  pub limits : IsPlaceWithinLimits place
  pub bare : is_end ≡ true → IsBare place

row-score : (is_end : Bool) (field : List ℕ) (n : ℕ) → row_score is_end field ≡ Ok n → (n ≤ most_score) × (is_end ≡ true → n ≡ 0)
row-score true field n h = let same : 0 ≡ n = cc in (omega (arith, same), λ e. sym same)
row-score false field n h = (score-low field n h, λ e. absurd cc)

row-service : (scale : ℕ) (is_start : Bool) (field : List ℕ) (n : ℕ) → row_service scale is_start field ≡ Ok n → (n ≤ latest) × (is_start ≡ true → n ≡ 0)
row-service scale true field n h = let same : 0 ≡ n = cc in (omega (arith, same), λ e. sym same)
row-service scale false field n h = (value-low scale field n h, λ e. absurd cc)

-- ---- rows without windows

plain-fits : (limit : ℕ) (is_end : Bool) (fields : List (List ℕ)) (place : Place) → limit ≤ latest → plain_place limit is_end fields ≡ Ok place →
    IsRowPlace is_end place × (place.opening ≡ 0)
unfolding plain_place
plain-fits limit is_end fields place low h =
    let k = passed (not (eqb (length fields) 3)) Fields (coordinate_of (field_at fields 0) >>= λ x. coordinate_of (field_at fields 1) >>= λ y. row_score is_end (field_at fields 2) >>= λ score. Ok (open_place limit x y score)) place h in
    let s = bound (coordinate_of (field_at fields 0)) (λ x. coordinate_of (field_at fields 1) >>= λ y. row_score is_end (field_at fields 2) >>= λ score. Ok (open_place limit x y score)) place k.1 in
    let t = bound (coordinate_of (field_at fields 1)) (λ y. row_score is_end (field_at fields 2) >>= λ score. Ok (open_place limit s.0 y score)) place s.1.1 in
    let u = bound (row_score is_end (field_at fields 2)) (λ score. Ok (open_place limit s.0 t.0 score)) place t.1.1 in
    let same : open_place limit s.0 t.0 u.0 ≡ place = cc (u.1.1) in
    let score = row-score is_end (field_at fields 2) u.0 u.1.0 in
    let within : IsPlaceWithinLimits (open_place limit s.0 t.0 u.0) = record {
      x = coordinate-low (field_at fields 0) s.0 s.1.0;
      y = coordinate-low (field_at fields 1) t.0 t.1.0;
      score = score.0;
      service = omega arith;
      window = omega arith;
      closing = low;
    } in
    rw (← same) (record { limits = within; bare = λ e. record { score = score.1 e; service = refl } }, refl)

pub record IsOpRow (n : ℕ) (place : Place) : Type 0 where
  pub few : n < 302
  pub fits : IsRowPlace (ltb n 2) place
  pub opens : place.opening ≡ 0

pub op-row-fits : (limit : ℕ) → limit ≤ latest → (n : ℕ) (fields : List (List ℕ)) (place : Place) → op_row limit n fields ≡ Ok place → IsOpRow n place
unfolding op_row
op-row-fits limit low n fields place h =
    let k = passed (leb 302 n) TooMany (plain_place limit (ltb n 2) fields) place h in
    let f = plain-fits limit (ltb n 2) fields place low k.1 in
    record { few = leb-false 302 n k.0; fits = f.0; opens = f.1 }

pub record IsTopRow (count n : ℕ) (place : Place) : Type 0 where
  pub few : n < count
  pub fits : IsRowPlace (eqb n 0 || eqb (n + 1) count) place
  pub opens : place.opening ≡ 0

pub top-row-fits : (count limit : ℕ) → limit ≤ latest → (n : ℕ) (fields : List (List ℕ)) (place : Place) → top_row count limit n fields ≡ Ok place → IsTopRow count n place
unfolding top_row
top-row-fits count limit low n fields place h =
    let k = passed (leb count n) RowCount (plain_place limit (eqb n 0 || eqb (n + 1) count) fields) place h in
    let f = plain-fits limit (eqb n 0 || eqb (n + 1) count) fields place low k.1 in
    record { few = leb-false count n k.0; fits = f.0; opens = f.1 }

-- ---- rows with windows

-- a time, as it is scaled
time-fits : (scale : ℕ) (field : List ℕ) (t : ℕ × ℕ) → time_of scale field ≡ Ok t → (t.1 ≡ scale * t.0 / 10000) × (t.1 ≤ latest)
unfolding time_of
time-fits scale field t h =
    let s = bound (number_of field) (λ d. scaled_value scale d.tenk >>= λ value. Ok (unsigned_abs d.tenk, value)) t h in
    let u = bound (scaled_value scale s.0.tenk) (λ value. Ok (unsigned_abs s.0.tenk, value)) t s.1.1 in
    let pair : ℕ × ℕ = (unsigned_abs s.0.tenk, u.0) in
    let same : pair ≡ t = cc (u.1.1) in
    rw (← same) (scaled-low scale s.0.tenk u.0 u.1.0)

-- scaling keeps the order
scaled-order : (scale a b : ℕ) → a ≤ b → scale * a / 10000 ≤ scale * b / 10000
scaled-order scale a b le = let more : scale * a ≤ scale * b = grind (arith, mul-le-mul_left) in omega (arith, more)

window-fits : (scale : ℕ) (first last : List ℕ) (w : ℕ × ℕ) → window_of scale first last ≡ Ok w → (w.0 ≤ w.1) × (w.1 ≤ latest)
unfolding window_of
window-fits scale first last w h =
    let s = bound (time_of scale first) (λ opening. time_of scale last >>= λ closing. cond (ltb closing.0 opening.0) (Err Window) (Ok (opening.1, closing.1))) w h in
    let t = bound (time_of scale last) (λ closing. cond (ltb closing.0 s.0.0) (Err Window) (Ok (s.0.1, closing.1))) w s.1.1 in
    let k = passed (ltb t.0.0 s.0.0) Window (Ok (s.0.1, t.0.1)) w t.1.1 in
    let pair : ℕ × ℕ = (s.0.1, t.0.1) in
    let same : pair ≡ w = cc (k.1) in
    let opening = time-fits scale first s.0 s.1.0 in
    let closing = time-fits scale last t.0 t.1.0 in
    let order = scaled-order scale s.0.0 t.0.0 (ltb-false t.0.0 s.0.0 k.0) in
    rw (← same) (omega (arith, opening.0, closing.0, order), closing.1)

pub record IsToptwRow (n : ℕ) (place : Place) : Type 0 where
  pub few : n < 301
  pub fits : IsRowPlace (eqb n 0) place

-- the steps of a row with a window, from the last to the first
abbrev windowed : ℤ → ℤ → ℕ → ℕ → ℕ × ℕ → Place
windowed x y service score window = record { x = x; y = y; score = score; service = service; opening = window.0; closing = window.1 }

abbrev from_window : ℕ → List (List ℕ) → ℤ → ℤ → ℕ → ℕ → Result Place FileCause
from_window scale fields x y service score =
    window_of scale (field_at fields (length fields - 2)) (field_at fields (length fields - 1)) >>= λ window. Ok (windowed x y service score window)

abbrev from_score : ℕ → Bool → List (List ℕ) → ℤ → ℤ → ℕ → Result Place FileCause
from_score scale is_start fields x y service = row_score is_start (field_at fields 4) >>= λ score. from_window scale fields x y service score

abbrev from_service : ℕ → Bool → List (List ℕ) → ℤ → ℤ → Result Place FileCause
from_service scale is_start fields x y = row_service scale is_start (field_at fields 3) >>= λ service. from_score scale is_start fields x y service

abbrev from_y : ℕ → Bool → List (List ℕ) → ℤ → Result Place FileCause
from_y scale is_start fields x = coordinate_of (field_at fields 2) >>= λ y. from_service scale is_start fields x y

windowed-fits : (scale : ℕ) (is_start : Bool) (fields : List (List ℕ)) (place : Place) → windowed_place scale is_start fields ≡ Ok place → IsRowPlace is_start place
unfolding windowed_place
windowed-fits scale is_start fields place h =
    let k = passed (ltb (length fields) 7) Fields (coordinate_of (field_at fields 1) >>= λ x. from_y scale is_start fields x) place h in
    let x = bound (coordinate_of (field_at fields 1)) (λ x. from_y scale is_start fields x) place k.1 in
    let y = bound (coordinate_of (field_at fields 2)) (λ y. from_service scale is_start fields x.0 y) place x.1.1 in
    let service = bound (row_service scale is_start (field_at fields 3)) (λ service. from_score scale is_start fields x.0 y.0 service) place y.1.1 in
    let score = bound (row_score is_start (field_at fields 4)) (λ score. from_window scale fields x.0 y.0 service.0 score) place service.1.1 in
    let window = bound (window_of scale (field_at fields (length fields - 2)) (field_at fields (length fields - 1))) (λ window. Ok (windowed x.0 y.0 service.0 score.0 window)) place score.1.1 in
    let same : windowed x.0 y.0 service.0 score.0 window.0 ≡ place = cc (window.1.1) in
    let services = row-service scale is_start (field_at fields 3) service.0 service.1.0 in
    let scores = row-score is_start (field_at fields 4) score.0 score.1.0 in
    let times = window-fits scale (field_at fields (length fields - 2)) (field_at fields (length fields - 1)) window.0 window.1.0 in
    let within : IsPlaceWithinLimits (windowed x.0 y.0 service.0 score.0 window.0) = record {
      x = coordinate-low (field_at fields 1) x.0 x.1.0;
      y = coordinate-low (field_at fields 2) y.0 y.1.0;
      score = scores.0;
      service = services.0;
      window = times.0;
      closing = times.1;
    } in
    rw (← same) (record { limits = within; bare = λ e. record { score = scores.1 e; service = services.1 e } })

pub toptw-row-fits : (scale n : ℕ) (fields : List (List ℕ)) (place : Place) → toptw_row scale n fields ≡ Ok place → IsToptwRow n place
unfolding toptw_row
toptw-row-fits scale n fields place h =
    let k = passed (leb 301 n) TooMany (windowed_place scale (eqb n 0) fields) place h in
    record { few = leb-false 301 n k.0; fits = windowed-fits scale (eqb n 0) fields place k.1 }

-- ---- all rows

at-line : {A : Type 0} (line : ℕ) (r : Result A FileCause) (x : A) → at_line line r ≡ Ok x → r ≡ Ok x
at-line line (Ok y) x h = let same : y ≡ x = cc in rw same refl
at-line line (Err e) x h = absurd cc

-- what holds of each place that a row can give holds of the places of the rows
pub places-fit : (read : RowReading) (P : ℕ → Place → Type 0) → ((n : ℕ) (fields : List (List ℕ)) (place : Place) → read n fields ≡ Ok place → P n place) →
    (n : ℕ) (rows : List Row) (places : List Place) → places_of read n rows ≡ Ok places → (k : ℕ) (d : Place) → k < length places → P (n + k) (get_or places k d)
unfolding places_of
places-fit read P fits n [] places h k d lt = let none : [] ≡ places = cc in absurd (omega (arith, ap length none))
places-fit read P fits n (row ∷ rows) places h k d lt =
    let s = bound (at_line row.line (read n row.fields)) (λ place. places_of read (n + 1) rows >>= λ others. Ok (place ∷ others)) places h in
    let t = bound (places_of read (n + 1) rows) (λ others. Ok (s.0 ∷ others)) places s.1.1 in
    let same : s.0 ∷ t.0 ≡ places = cc (t.1.1) in
    let long : length (s.0 ∷ t.0) ≡ length places = ap length same in
    let here = fits n row.fields s.0 (at-line row.line (read n row.fields) s.0 s.1.0) in
    rw (← same) (by_number k s.0 t.0 (omega (arith, long)) here (places-fit read P fits (n + 1) rows t.0 t.1.0))
  where
    by_number : (k : ℕ) (place : Place) (others : List Place) → k < suc (length others) → P n place →
        ((k : ℕ) (d : Place) → k < length others → P (n + 1 + k) (get_or others k d)) → P (n + k) (get_or (place ∷ others) k d)
    by_number zero place others lt here rest = let none : n ≡ n + 0 = omega arith in subst (λ (m : ℕ). P m place) none here
    by_number (suc k) place others lt here rest =
        let more : n + 1 + k ≡ n + suc k = omega arith in subst (λ (m : ℕ). P m (get_or others k d)) more (rest k d (omega arith))

-- a line of the head that is read
pub head-read : {A : Type 0} (read : List (List ℕ) → Result A FileCause) (end : ℕ) (rows : List Row) (x : A × List Row) → head_line read end rows ≡ Ok x →
    (fields : List (List ℕ)) × (read fields ≡ Ok x.0)
unfolding head_line
head-read read end [] x h = absurd cc
head-read {A} read end (row ∷ rows) x h =
    let s = bound (at_line row.line (read row.fields)) (λ a. let y : Result (A × List Row) Refusal = Ok (a, rows) in y) x h in
    let pair : A × List Row = (s.0, rows) in
    let same : pair ≡ x = cc (s.1.1) in
    (row.fields, rw (← same) (at-line row.line (read row.fields) s.0 s.1.0))
