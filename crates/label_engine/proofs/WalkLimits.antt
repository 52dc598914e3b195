-- How large the value of a relaxed walk is.
use Rattle.std.proofs.Common.{ℕ, suc, ◌*◌, ◌^◌, ◌≤◌, List, [], ◌∷◌, length, ℤ, pos, ◌+ℤ◌, ◌-ℤ◌, subst, arith, lit≤}
use Rattle.std.specs.Prelude.{unsigned_abs, MatchOption}
use Rattle.std.proofs.Math.Nat.{mul-le-mul_left, mul-le-mul_right}
use Rattle.std.proofs.lemmas.Int.{ints}
use Rattle.orienteering.specs.Instance.{Problem, calls, travel, end_place}
use Rattle.orienteering.specs.Limits.{IsInstance}
use Rattle.orienteering.specs.Price.{IsFit}
use Rattle.orienteering.specs.Region.{Region, is_forced}
use Rattle.orienteering.specs.Replay.{relaxation}
use Rattle.orienteering.specs.Walk.{Relaxation, IsRelaxedWalk, last_place, step_value, value_along, walk_value}
use Rattle.orienteering.specs.declared.Price.{Price}
use Rattle.orienteering.proofs.ShortLengths.{lengths_are_short}
use Rattle.label_engine.specs.Greatest.{sigma_of, HasWalk}
use Rattle.label_engine.specs.declared.replay.Outcome.{Outcome}
use Rattle.label_engine.specs.declared.replay.Outcome.TheVariants.{NoWalk, Best}
use Rattle.label_engine.proofs.CutLimits.{small_step}

module _ (p : Problem) (now : Region) (price : Price) (critical : List ℕ) (is : IsInstance p) (fit : IsFit (calls p) (is_forced now) price) where
  abbrev relaxed : Relaxation
  relaxed = relaxation now price critical

  front_within : (i : ℕ) (js : List ℕ) → unsigned_abs (value_along p relaxed i js) ≤ length js * 10 ^ 18
  front_within i [] = lit≤ tt
  front_within i (j ∷ js) =
      sums (step_value p relaxed i j) (value_along p relaxed j js) (length js) (small_step p now price critical is fit i j) (front_within j js)
    where
      sums : (x y : ℤ) (n : ℕ) → unsigned_abs x ≤ 10 ^ 18 → unsigned_abs y ≤ n * 10 ^ 18 → unsigned_abs (x +ℤ y) ≤ suc n * 10 ^ 18
      sums x y n a b = omega (arith, ints)

  way_home_within : (i : ℕ) → price.beta * travel p i (end_place p) ≤ 10 ^ 9 * 282842712
  way_home_within i =
      let low : price.beta * travel p i (end_place p) ≤ 10 ^ 9 * travel p i (end_place p) = mul-le-mul_right (travel p i (end_place p)) fit.beta in
      let high : 10 ^ 9 * travel p i (end_place p) ≤ 10 ^ 9 * 282842712 = mul-le-mul_left (10 ^ 9) (lengths_are_short p i (end_place p) is) in
      omega arith

  -- no relaxed walk is worth more, or costs more
  walk_within : (walk : List ℕ) → IsRelaxedWalk p relaxed walk → unsigned_abs (walk_value p relaxed walk) ≤ 10 ^ 24
  walk_within walk w =
      home (value_along p relaxed 0 walk) (price.beta * travel p (last_place 0 walk) (end_place p)) (length walk)
      (front_within 0 walk) (way_home_within (last_place 0 walk)) (omega (arith, w.front.short, is.few_calls))
    where
      home : (x : ℤ) (paid n : ℕ) → unsigned_abs x ≤ n * 10 ^ 18 → paid ≤ 10 ^ 9 * 282842712 → n ≤ 300 → unsigned_abs (x -ℤ pos paid) ≤ 10 ^ 24
      home x paid n a b c = omega (arith, ints)

  pub outcome_within : (o : Outcome) → HasWalk p relaxed o → MatchOption (sigma_of o) (Unit {0}) (λ s. unsigned_abs s ≤ 10 ^ 24)
  outcome_within NoWalk h = tt
  outcome_within (Best value walk) h = subst (λ s. unsigned_abs s ≤ 10 ^ 24) h.reaches (walk_within walk h.relaxed)
