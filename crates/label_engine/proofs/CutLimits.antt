-- Within the limits of an instance and of a fit price no number of a cut goes past its type.
use Rattle.std.proofs.Common.{◌≡◌, ℕ, ◌*◌, ◌^◌, ◌≤◌, Bool, List, [], ◌∷◌, ℤ, pos, ◌-ℤ◌, None, Some, sym, ap, ◌∙◌, subst, arith, lit≤, to_z, of_z}
use Rattle.std.specs.Prelude.{unsigned_abs, FitsSigned}
use Rattle.std.specs.Int.{w64, w128}
use Rattle.std.specs.List.{AllByRecursion}
use Rattle.std.proofs.Math.Nat.{mul-le-mul_left, mul-le-mul_right}
use Rattle.std.proofs.lemmas.Bool.{cond_both}
use Rattle.std.proofs.lemmas.Int.{ints}
use Rattle.std.proofs.lemmas.Option.{same_Some, none-some}
use Rattle.label_core.specs.Resource.{Laws}
use Rattle.label_core.specs.Clock.{IsClock, IsClockStep}
use Rattle.label_core.specs.ClockLaws.{clock_laws}
use Rattle.label_core.specs.Critical.{IsCritical, IsMark}
use Rattle.label_core.specs.CriticalLaws.{critical_laws}
use Rattle.label_core.specs.Worth.{IsWorth, IsGain}
use Rattle.label_core.specs.WorthLaws.{worth_laws}
use Rattle.label_core.specs.Pair.{FitsBoth, FitsBothSteps}
use Rattle.label_core.specs.PairLaws.{pair_laws}
use Rattle.label_engine.specs.Front.{GivesFitting}
use Rattle.label_engine.specs.Cut.{CutStep, cut_rules, mark_of, cut_step, step_between, at_start, cut_moves, IsBounded, Cut, IsCut, IsVisit, relaxed as relaxed_cut}
use Rattle.label_engine.specs.declared.visit.Visit.{Visit}
use Rattle.label_engine.proofs.Covering.{through}
use Rattle.label_engine.proofs.CutSteps.{not_none}
use Rattle.orienteering.specs.Instance.{Problem, site, calls, travel}
use Rattle.orienteering.specs.Limits.{IsInstance}
use Rattle.orienteering.specs.Price.{price_of, IsFitEntry, IsFit}
use Rattle.orienteering.specs.Region.{Region, is_forced}
use Rattle.orienteering.specs.Replay.{relaxation}
use Rattle.orienteering.specs.Walk.{Relaxation, step_value}
use Rattle.orienteering.specs.declared.Price.{Price}
use Rattle.orienteering.proofs.ShortLengths.{site-within, lengths_are_short}

-- a step of a walk is worth less than this
abbrev pub most_step : ℕ
most_step = 10 ^ 18

pub small_price : (forced : ℕ → Bool) (es : List (ℕ × ℤ)) (j : ℕ) → AllByRecursion (IsFitEntry forced) es → unsigned_abs (price_of es j) ≤ 10 ^ 17
small_price forced [] j h = lit≤ tt
small_price forced (e ∷ es) j h =
    cond_both _ e.1 (price_of es j) (λ z. unsigned_abs z ≤ 10 ^ 17) (λ _. h.0.size) (λ _. small_price forced es j h.1)

weighed : (weight amount most_weight most_amount : ℕ) → weight ≤ most_weight → amount ≤ most_amount → weight * amount ≤ most_weight * most_amount
weighed weight amount most_weight most_amount w a =
    let low : weight * amount ≤ most_weight * amount = mul-le-mul_right amount w in
    let high : most_weight * amount ≤ most_weight * most_amount = mul-le-mul_left most_weight a in
    omega arith

step_within : (earned paid : ℕ) (price : ℤ) → earned ≤ 10 ^ 9 * 10 ^ 5 → paid ≤ 10 ^ 9 * 282842712 → unsigned_abs price ≤ 10 ^ 17 → unsigned_abs ((pos earned -ℤ pos paid) -ℤ price) ≤ 10 ^ 18
step_within earned paid price e p q = omega (arith, ints)

signed_within : (z : ℤ) → unsigned_abs z ≤ 10 ^ 18 → FitsSigned w128 z
signed_within z h = grind (arith, ints)

pub signed_within_64 : (z : ℤ) → unsigned_abs z ≤ 10 ^ 18 → FitsSigned w64 z
signed_within_64 z h = grind (arith, ints)

pub fits_difference : (a b : ℤ) → FitsSigned w64 a → FitsSigned w64 b → unsigned_abs (a -ℤ b) ≤ 10 ^ 18 → FitsSigned w64 (to_z w64 (of_z w64 a) -ℤ to_z w64 (of_z w64 b))
fits_difference a b f g h = grind (arith, ints)

pub read_difference : (r a b : ℤ) → FitsSigned w64 r → FitsSigned w64 a → FitsSigned w64 b → r ≡ (to_z w64 (of_z w64 a) -ℤ to_z w64 (of_z w64 b)) → to_z w64 (of_z w64 r) ≡ a -ℤ b
read_difference r a b f g h e = omega (arith, ints)

pub visit_within : (earned : ℕ) (price : ℤ) → earned ≤ 10 ^ 9 * 282842712 → unsigned_abs price ≤ 10 ^ 17 → unsigned_abs (pos earned -ℤ price) ≤ 10 ^ 18
visit_within earned price e q = omega (arith, ints)

pub value_by_visit : (earned paid : ℕ) (price : ℤ) → (pos earned -ℤ price) -ℤ pos paid ≡ ((pos earned -ℤ pos paid) -ℤ price)
value_by_visit earned paid price = omega (arith, ints)

module _ (p : Problem) (now : Region) (price : Price) (critical : List ℕ) (is : IsInstance p) (fit : IsFit (calls p) (is_forced now) price) where
  abbrev relaxed : Relaxation
  relaxed = relaxation now price critical

  pub small_step : (i j : ℕ) → unsigned_abs (step_value p relaxed i j) ≤ most_step
  small_step i j =
      step_within (price.alpha * (site p j).score) (price.beta * travel p i j) (price_of price.pi j)
      (weighed price.alpha (site p j).score (10 ^ 9) (10 ^ 5) fit.alpha (site-within p j is).score)
      (weighed price.beta (travel p i j) (10 ^ 9) 282842712 fit.beta (lengths_are_short p i j is))
      (small_price (is_forced now) price.pi j fit.prices)

  few_calls : calls p ≤ 300
  few_calls = omega (arith, is.few_calls)

  pub bounded : IsBounded p relaxed most_step
  bounded = record {
    closing = λ j. omega (arith, (site-within p j is).closing);
    value = small_step;
    sum = omega (arith, few_calls);
  }

  pub cut_laws : Laws cut_rules (FitsBoth IsClock (FitsBoth IsCritical IsWorth)) (FitsBothSteps IsClockStep (FitsBothSteps IsMark IsGain))
  cut_laws = pair_laws clock_laws (pair_laws critical_laws worth_laws)

  small_mark : (j : ℕ) → j ≤ calls p → IsMark (mark_of relaxed j)
  small_mark j within = cond_both (relaxed.critical j) (Some j) None IsMark
      (λ _ n e. omega (arith, same_Some _ _ e, few_calls, within))
      (λ _ n e. absurd (none-some n e))

  step_fits : (i j : ℕ) → j ≤ calls p → FitsBothSteps IsClockStep (FitsBothSteps IsMark IsGain) (cut_step p relaxed i j)
  step_fits i j within = record {
    a = record {
      travel = omega (arith, (site-within p i is).service, lengths_are_short p i j is);
      opening = omega (arith, (site-within p j is).window, (site-within p j is).closing);
      closing = omega (arith, (site-within p j is).closing);
    };
    b = record {
      a = small_mark j within;
      b = record { by = signed_within (step_value p relaxed i j) (small_step i j) };
    };
  }

  pub between_fits : (i j : ℕ) (step : CutStep) → j ≤ calls p → step_between p relaxed i j ≡ Some step → FitsBothSteps IsClockStep (FitsBothSteps IsMark IsGain) step
  between_fits i j step within e =
      subst (FitsBothSteps IsClockStep (FitsBothSteps IsMark IsGain)) (not_none _ (cut_step p relaxed i j) step e).1 (step_fits i j within)

  pub start_fits : FitsBoth IsClock (FitsBoth IsCritical IsWorth) (at_start p)
  start_fits = record {
    a = omega (arith, (site-within p 0 is).window, (site-within p 0 is).closing);
    b = record {
      a = record { rising = tt; small = tt };
      b = record { sum = signed_within (pos 0) (lit≤ tt) };
    };
  }

  pub fitting : GivesFitting (FitsBoth IsClock (FitsBoth IsCritical IsWorth)) (FitsBothSteps IsClockStep (FitsBothSteps IsMark IsGain)) (cut_moves p relaxed)
  fitting = record {
    begin = λ j value is_call e.
        let t = through (cut_rules.extended (at_start p)) (step_between p relaxed 0 j) value e in
        cut_laws.fits (at_start p) t.value value start_fits (between_fits 0 j t.value is_call.high t.is) t.gives;
    step = λ i j step from to e. between_fits i j step to.high e;
  }

-- what a step is worth, by the visit of its call
pub worth_is : (m : Cut) (from to : ℕ) (visit : Visit) (paid : ℤ) → IsVisit m to visit → paid ≡ pos (m.price.beta * travel m.problem from to) → (visit.worth -ℤ paid) ≡ step_value m.problem (relaxed_cut m) from to
worth_is m from to visit paid v paid_is =
    let earned = m.price.alpha * (site m.problem to).score in
    let price = price_of m.price.pi to in
    ap (λ z. z -ℤ paid) v.1 ∙ ap (λ z. (pos earned -ℤ price) -ℤ z) paid_is ∙
    value_by_visit earned (m.price.beta * travel m.problem from to) price

pub small_worth : (m : Cut) (from to : ℕ) (visit : Visit) (paid : ℤ) → IsCut m → IsVisit m to visit → paid ≡ pos (m.price.beta * travel m.problem from to) → unsigned_abs (visit.worth -ℤ paid) ≤ most_step
small_worth m from to visit paid is v paid_is =
    subst (λ z. unsigned_abs z ≤ most_step) (sym (worth_is m from to visit paid v paid_is))
    (small_step m.problem m.region m.price m.critical is.instance is.fit from to)
