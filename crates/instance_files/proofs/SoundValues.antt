-- What is read of a field is within its limit.
use Rattle.std.proofs.Common.{◌≡◌, ℕ, ◌+◌, ◌*◌, ◌/◌, ◌<◌, ◌≤◌, ◌&&◌, ◌||◌, Bool, true, false, cond, not, List, ℤ, unsigned_abs, Result, Ok, Err, Option, None, Some, ltb, refl, sym, arith}
use Rattle.std.proofs.lemmas.Bool.{ltb-false}
use Rattle.orienteering.specs.Limits.{most_coordinate, most_score, most_members, latest}
use Rattle.fixed_num.specs.declared.decimal.Decimal.{Decimal}
use Rattle.instance_files.specs.Values.{◌>>=◌, number_of, near, coordinate_of, scaled, scaled_value, value_of, is_negative, is_whole_between, whole_between, score_of, count_of}
use Rattle.instance_files.specs.Rows.{IsTeam, tours_of}
use Rattle.instance_files.specs.declared.values.FileCause.{FileCause}
use Rattle.instance_files.specs.declared.values.FileCause.TheVariants.{Score, Team}

-- a step that was taken, and what follows it
pub bound : {A B E : Type 0} (r : Result A E) (f : A → Result B E) (y : B) → (r >>= f) ≡ Ok y → (a : A) × ((r ≡ Ok a) × (f a ≡ Ok y))
bound (Ok a) f y h = (a, (refl, h))
bound (Err e) f y h = absurd cc

-- a test that refused nothing
pub passed : {A E : Type 0} (t : Bool) (e : E) (r : Result A E) (y : A) → cond t (Err e) r ≡ Ok y → (t ≡ false) × (r ≡ Ok y)
passed false e r y h = (refl, h)
passed true e r y h = absurd cc

or-false : (s t : Bool) → (s || t) ≡ false → (s ≡ false) × (t ≡ false)
or-false false t h = (refl, h)
or-false true t h = absurd cc

and-both : (s t : Bool) → (s && t) ≡ true → (s ≡ true) × (t ≡ true)
and-both true t h = (refl, h)
and-both false t h = absurd cc

not-true : (t : Bool) → not t ≡ true → t ≡ false
not-true false h = refl
not-true true h = absurd cc

near-low : (tenk x : ℤ) → near tenk ≡ Ok x → unsigned_abs x ≤ most_coordinate
near-low tenk x h =
    let k = passed (ltb most_coordinate (unsigned_abs tenk)) _ (Ok tenk) x h in
    let same : tenk ≡ x = cc (k.1) in
    let low = ltb-false most_coordinate (unsigned_abs tenk) k.0 in
    rw (sym same) low

pub coordinate-low : (field : List ℕ) (x : ℤ) → coordinate_of field ≡ Ok x → unsigned_abs x ≤ most_coordinate
unfolding coordinate_of
coordinate-low field x h = let step = bound (number_of field) (λ d. near d.tenk) x h in near-low step.0.tenk x step.1.1

pub scaled-low : (scale : ℕ) (tenk : ℤ) (v : ℕ) → scaled_value scale tenk ≡ Ok v → (v ≡ scaled scale tenk) × (v ≤ latest)
scaled-low scale tenk v h =
    let k = passed (is_negative tenk || ltb latest (scaled scale tenk)) _ (Ok (scaled scale tenk)) v h in
    let same : scaled scale tenk ≡ v = cc (k.1) in
    let low = ltb-false latest (scaled scale tenk) (or-false (is_negative tenk) _ k.0).1 in
    (sym same, rw (sym same) low)

pub value-low : (scale : ℕ) (field : List ℕ) (v : ℕ) → value_of scale field ≡ Ok v → v ≤ latest
unfolding value_of
value-low scale field v h = let step = bound (number_of field) (λ d. scaled_value scale d.tenk) v h in (scaled-low scale step.0.tenk v step.1.1).1

whole-within : (low high : ℕ) (cause : FileCause) (d : Decimal) (n : ℕ) → whole_between low high cause d ≡ Ok n → (low ≤ n) × (n ≤ high)
whole-within low high cause d n h = by_test (is_whole_between low high d) refl h
  where
    by_test : (t : Bool) → is_whole_between low high d ≡ t → cond t (Ok (unsigned_abs d.tenk / 10000)) (Err cause) ≡ Ok n → (low ≤ n) × (n ≤ high)
    by_test false is q = absurd cc
    by_test true is q =
        let same : unsigned_abs d.tenk / 10000 ≡ n = cc in
        let tests = and-both (d.whole && not (is_negative d.tenk) && not (ltb (unsigned_abs d.tenk) (low * 10000))) (not (ltb (high * 10000) (unsigned_abs d.tenk))) is in
        let least = ltb-false (unsigned_abs d.tenk) (low * 10000) (not-true _ (and-both (d.whole && not (is_negative d.tenk)) (not (ltb (unsigned_abs d.tenk) (low * 10000))) tests.0).1) in
        let most = ltb-false (high * 10000) (unsigned_abs d.tenk) (not-true _ tests.1) in
        (omega (arith, same, least), omega (arith, same, most))

pub score-low : (field : List ℕ) (n : ℕ) → score_of field ≡ Ok n → n ≤ most_score
unfolding score_of
score-low field n h = let step = bound (number_of field) (λ d. whole_between 0 most_score Score d) n h in (whole-within 0 most_score Score step.0 n step.1.1).1

count-within : (field : List ℕ) (n : ℕ) → count_of field ≡ Ok n → (1 ≤ n) × (n ≤ most_members)
unfolding count_of
count-within field n h = let step = bound (number_of field) (λ d. whole_between 1 most_members Team d) n h in whole-within 1 most_members Team step.0 n step.1.1

pub tours-within : (team : Option ℕ) (field : List ℕ) (m : ℕ) → IsTeam team → tours_of team field ≡ Ok m → (1 ≤ m) × (m ≤ most_members)
tours-within None field m given h = count-within field m h
tours-within (Some size) field m given h =
    let s = bound (number_of field) (λ number. Ok size) m h in
    let same : size ≡ m = cc (s.1.1) in
    rw (← same) given
