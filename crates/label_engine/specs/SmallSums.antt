-- The rules of a cut with sums of 8 bytes, and where these stop no sum of a walk.
use Rattle.std.specs.Prelude.{◌*◌, ◌-◌, ◌^◌, ◌≤◌, ℕ, ℤ, pos, negsuc, ◌+ℤ◌, int_le, unsigned_abs, FitsSigned, Some}
use Rattle.std.specs.Int.{w64, int_min, int_max}
use Rattle.std.specs.Option.{option_and_then}
use Rattle.label_core.specs.Resource.{Rules}
use Rattle.label_core.specs.Clock.{clock_rules}
use Rattle.label_core.specs.Critical.{critical_rules}
use Rattle.label_core.specs.Pair.{pair_rules}
use Rattle.label_core.specs.declared.worth.Worth.{Worth}
use Rattle.label_core.specs.declared.worth.Gain.{Gain}
use Rattle.label_engine.specs.Cut.{CutValue, CutStep, Cut, relaxed, at_start, flagged_between}
use Rattle.label_engine.specs.Front.{MoveRules}
use Rattle.orienteering.specs.Instance.{calls, IsCall}
use Rattle.orienteering.specs.Walk.{step_value}

-- where small sums stop, on both sides
abbrev pub most_small : ℕ
most_small = 4 * 10 ^ 18

abbrev pub small_clamped : ℤ → ℤ
small_clamped sum = int_min (int_max sum (negsuc (most_small - 1))) (pos most_small)

abbrev pub small_worth_rules : Rules Worth Gain
small_worth_rules = record {
  extended = λ worth gain. Some (record { sum = small_clamped (worth.sum +ℤ gain.by) });
  leq = λ a b. int_le b.sum a.sum;
}

pub record IsSmallWorth (worth : Worth) : Type 0 where
  pub sum : FitsSigned w64 worth.sum

pub record IsSmallGain (gain : Gain) : Type 0 where
  pub by : FitsSigned w64 gain.by

abbrev pub small_rules : Rules CutValue CutStep
small_rules = pair_rules clock_rules (pair_rules critical_rules small_worth_rules)

abbrev pub small_moves : Cut → MoveRules CutValue CutStep
small_moves c = record {
  calls = calls c.problem;
  begin = λ j. option_and_then (small_rules.extended (at_start c.problem)) (flagged_between c 0 j);
  step = flagged_between c;
}

-- as many steps as there are calls don't bring a sum to where small sums stop
pub record HasSmallSums (c : Cut) : Type 0 where
  pub step : ℕ
  pub each :
      (i j : ℕ) → i ≤ calls c.problem → IsCall c.problem j →
      unsigned_abs (step_value c.problem (relaxed c) i j) ≤ step
  pub sum : calls c.problem * step ≤ most_small
