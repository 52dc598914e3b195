-- No two places of an instance are farther apart than the longest arc.
use Rattle.std.proofs.Common.{◌≡◌, ℕ, zero, suc, ◌+◌, ◌*◌, ◌/◌, ◌^◌, ◌<◌, ◌≤◌, inl, inr, ℤ, pos, ◌-ℤ◌, unsigned_abs, lit≤, refl, subst, arith, sym, ap, ◌∙◌, List, [], ◌∷◌, length}
use Rattle.std.specs.Prelude.{slice_index_or}
use Rattle.std.proofs.lemmas.List.{get_or_past}
use Rattle.std.proofs.lemmas.List.Elements.{All-get_or}
use Rattle.std.proofs.lemmas.Bool.{cases_lt}
use Rattle.std.proofs.lemmas.Int.{ints}
use Rattle.std.proofs.Math.Nat.{mul-le-mul_left, mul-le-mul_right}
use Rattle.orienteering.specs.Instance.{Problem, site, nowhere, distance, travel, scaled_length, IsGreatestLength}
use Rattle.orienteering.specs.Limits.{IsInstance, IsPlaceWithinLimits, IsScale, LengthsAreShort}
use Rattle.orienteering.specs.declared.Place.{Place}
use Rattle.orienteering.proofs.Lengths.{length_is_greatest, square}

difference-near : (x y : ℤ) → unsigned_abs x ≤ 10 ^ 9 → unsigned_abs y ≤ 10 ^ 9 → unsigned_abs (x -ℤ y) ≤ 2000000000
difference-near x y p q = omega (arith, ints)

scale-low : (s : ℕ) → IsScale s → s ≤ 1000
scale-low s is = grind (arith, is)

squares : (s x y : ℕ) → s ≤ 1000 → x ≤ 2000000000 → y ≤ 2000000000 → s * s * (x * x + y * y) ≤ 8000000000000000000000000
squares s x y p q r =
    let a : s * s ≤ 1000 * 1000 = square-le s 1000 p in
    let b : x * x ≤ 2000000000 * 2000000000 = square-le x 2000000000 q in
    let c : y * y ≤ 2000000000 * 2000000000 = square-le y 2000000000 r in
    let d : x * x + y * y ≤ 8000000000000000000 = omega arith in
    let e : s * s * (x * x + y * y) ≤ s * s * 8000000000000000000 = mul-le-mul_left (s * s) d in
    let f : s * s * 8000000000000000000 ≤ 1000000 * 8000000000000000000 = mul-le-mul_right 8000000000000000000 a in
    omega arith
  where
    square-le : (a b : ℕ) → a ≤ b → a * a ≤ b * b
    square-le a b le = grind (arith, mul-le-mul_left)

short-root : (w t : ℕ) → w * w ≤ 8000000000000000000000000 → w ≡ t * 10000 → t ≤ 282842712
short-root w t h e =
    elim (cases_lt 282842712 t) [
      | inl more ↦
          let low : 2828427130000 ≤ w = omega arith in
          let a : 2828427130000 * 2828427130000 ≤ 2828427130000 * w = mul-le-mul_left 2828427130000 low in
          let b : 2828427130000 * w ≤ w * w = mul-le-mul_right w low in
          absurd (omega arith)
      | inr less ↦ less
    ]

length-short : (s x y : ℕ) → s ≤ 1000 → x ≤ 2000000000 → y ≤ 2000000000 → scaled_length s x y ≤ 282842712
length-short s x y p q r =
    let t = scaled_length s x y in
    let fits : (t * 10 ^ 4) ^ 2 ≤ s ^ 2 * (x ^ 2 + y ^ 2) = (length_is_greatest s x y).fits in
    let spread : s ^ 2 * (x ^ 2 + y ^ 2) ≡ s * s * (x * x + y * y) =
    ap (λ n. n * (x ^ 2 + y ^ 2)) (square s) ∙ ap (λ n. s * s * (n + y ^ 2)) (square x) ∙ ap (λ n. s * s * (x * x + n)) (square y) in
    let w = t * 10 ^ 4 in
    let whole : w ^ 2 ≡ w * w = square w in
    let limit = squares s x y p q r in
    short-root w t (omega arith) refl

nowhere-within : IsPlaceWithinLimits nowhere
nowhere-within = record { x = lit≤ tt; y = lit≤ tt; score = lit≤ tt; service = lit≤ tt; window = lit≤ tt; closing = lit≤ tt }

-- each place keeps the limits, also one that isn't there
pub site-within : (p : Problem) (i : ℕ) → IsInstance p → IsPlaceWithinLimits (site p i)
site-within p i is =
    elim (cases_lt i (length p.sites)) [
      | inl there ↦ All-get_or IsPlaceWithinLimits p.sites i nowhere there is.places
      | inr past ↦ subst IsPlaceWithinLimits (sym (get_or_past p.sites i nowhere past)) nowhere-within
    ]

pub distance-short : (s : ℕ) (a b : Place) → s ≤ 1000 → IsPlaceWithinLimits a → IsPlaceWithinLimits b → distance s a b ≤ 282842712
unfolding distance
distance-short s a b low p q =
    length-short s (unsigned_abs (a.x -ℤ b.x)) (unsigned_abs (a.y -ℤ b.y)) low (difference-near a.x b.x p.x q.x) (difference-near a.y b.y p.y q.y)

pub lengths_are_short : LengthsAreShort
unfolding travel
lengths_are_short p i j is =
    distance-short p.scale (site p i) (site p j) (scale-low p.scale is.scale) (site-within p i is) (site-within p j is)
