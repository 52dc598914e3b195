-- The moves of a cut: what a walk carries from call to call is a clock, the critical calls that it visited, and its worth.
use Rattle.std.specs.Prelude.{◌≡◌, ◌≤ℤ◌, All, Any, MatchOption, true, ℕ, ◌+◌, ◌*◌, ◌<◌, ◌≤◌, ◌||◌, nat_eq, if◌then◌else◌, ℤ, pos, ◌-ℤ◌, unsigned_abs, List, [], Option, None, Some}
use Rattle.std.specs.List.{position}
use Rattle.std.specs.Option.{option_and_then, option_map}
use Rattle.label_core.specs.Resource.{Rules}
use Rattle.label_core.specs.Clock.{clock_rules, latest}
use Rattle.label_core.specs.Critical.{critical_rules}
use Rattle.label_core.specs.Worth.{worth_rules, most}
use Rattle.label_core.specs.Pair.{pair_rules}
use Rattle.label_core.specs.declared.clock.Clock.{Clock}
use Rattle.label_core.specs.declared.clock.ClockStep.{ClockStep}
use Rattle.label_core.specs.declared.pair.Pair.{Pair}
use Rattle.label_core.specs.declared.pair.PairStep.{PairStep}
use Rattle.label_core.specs.declared.worth.Worth.{Worth}
use Rattle.label_core.specs.declared.worth.Gain.{Gain}
use Rattle.label_engine.specs.Front.{MoveRules, State}
use Rattle.label_engine.specs.Settled.{state_of}
use Rattle.label_engine.specs.declared.label.Label.{Label}
use Rattle.label_engine.specs.declared.visit.Visit.{Visit}
use Rattle.orienteering.specs.Instance.{Problem, site, calls, travel, end_place, next_clock}
use Rattle.orienteering.specs.Limits.{IsInstance}
use Rattle.orienteering.specs.Price.{price_of, IsFit}
use Rattle.orienteering.specs.Region.{Region, IsProper, is_forced}
use Rattle.orienteering.specs.Replay.{relaxation, is_critical_set}
use Rattle.orienteering.specs.Walk.{Relaxation, step_value}
use Rattle.orienteering.specs.declared.Price.{Price}

abbrev pub CutValue : Type 0
CutValue = Pair Clock (Pair (List ℕ) Worth)

abbrev pub CutStep : Type 0
CutStep = PairStep ClockStep (PairStep (Option ℕ) Gain)

abbrev pub cut_rules : Rules CutValue CutStep
cut_rules = pair_rules clock_rules (pair_rules critical_rules worth_rules)

abbrev pub mark_of : Relaxation → ℕ → Option ℕ
mark_of r j = if r.critical j then Some j else None

-- the step from a place to a call
abbrev pub cut_step : Problem → Relaxation → ℕ → ℕ → CutStep
cut_step p r i j = record {
  a = record { travel = (site p i).service + travel p i j; opening = (site p j).opening; closing = (site p j).closing };
  b = record { a = mark_of r j; b = record { by = step_value p r i j } };
}

abbrev pub step_between : Problem → Relaxation → ℕ → ℕ → Option CutStep
step_between p r i j = if nat_eq i j || r.shut i j then None else Some (cut_step p r i j)

-- at the start nothing is visited or earned
abbrev pub at_start : Problem → CutValue
at_start p = record { a = record { at = (site p 0).opening }; b = record { a = []; b = record { sum = pos 0 } } }

abbrev pub cut_moves : Problem → Relaxation → MoveRules CutValue CutStep
cut_moves p r = record {
  calls = calls p;
  begin = λ j. option_and_then (cut_rules.extended (at_start p)) (step_between p r 0 j);
  step = step_between p r;
}

-- no clock reaches the last number, and no value that of where sums stop
pub record IsBounded (p : Problem) (r : Relaxation) (step : ℕ) : Type 0 where
  pub closing : (j : ℕ) → (site p j).closing < latest
  pub value : (i j : ℕ) → unsigned_abs (step_value p r i j) ≤ step
  pub sum : calls p * step ≤ most

-- the value of the walk that ends at the call with this clock and sum, and none where it can't go to the end
abbrev pub closed_sum : Problem → Relaxation → ℕ → ℕ → ℤ → Option ℤ
closed_sum p r call at sum =
    if r.shut call (end_place p) then None else
    option_map (λ _. sum -ℤ pos (r.beta * travel p call (end_place p))) (next_clock p at call (end_place p))

abbrev pub closed_value : Problem → Relaxation → State CutValue → Option ℤ
closed_value p r s = closed_sum p r s.call s.value.a.at s.value.b.b.sum

-- the value is that of a label that can close, and no label that can close has more
pub record IsBestClosed (p : Problem) (r : Relaxation) (labels : List (Label CutValue)) (value : ℤ) : Type 0 where
  pub reached : Any (λ label. closed_value p r (state_of label) ≡ Some value) labels
  pub greatest : All (λ label. (w : ℤ) → closed_value p r (state_of label) ≡ Some w → w ≤ℤ value) labels

-- the greatest value of the labels that can close, and none where none can
abbrev pub IsBestOf : Problem → Relaxation → List (Label CutValue) → Option ℤ → Type 0
IsBestOf p r labels best =
    MatchOption best (All (λ label. closed_value p r (state_of label) ≡ None) labels) (IsBestClosed p r labels)

-- ---- what a replay is asked

-- an instance, a region of its plans, a price, and the critical calls
pub record Cut : Type 0 where
  pub problem : Problem
  pub region : Region
  pub price : Price
  pub critical : List ℕ

abbrev pub cut : Problem → Region → Price → List ℕ → Cut
cut problem region price critical = record { problem = problem; region = region; price = price; critical = critical }

abbrev pub relaxed : Cut → Relaxation
relaxed c = relaxation c.region c.price c.critical

-- the region is one of the instance, the price is fit for it, and the critical calls are few and rise
pub record IsCut (c : Cut) : Type 0 where
  pub instance : IsInstance c.problem
  pub proper : IsProper c.problem c.region
  pub fit : IsFit (calls c.problem) (is_forced c.region) c.price
  pub critical : is_critical_set (calls c.problem) c.critical ≡ true

-- the place of a call in the critical set, where it is critical
abbrev pub flag_of : List ℕ → ℕ → Option ℕ
flag_of critical call = position (λ place. nat_eq place call) critical

-- the call's place in the critical set, and what a visit is worth without the travel
abbrev pub IsVisit : Cut → ℕ → Visit → Type 0
IsVisit c call visit =
    (visit.place ≡ flag_of c.critical call)
    × (visit.worth ≡ pos (c.price.alpha * (site c.problem call).score) -ℤ price_of c.price.pi call)

-- ---- moves whose walks hold the places of critical calls in the critical set

-- the step with another mark
abbrev pub marked : Option ℕ → CutStep → CutStep
marked mark step = record { a = step.a; b = record { a = mark; b = step.b.b } }

abbrev pub flagged_between : Cut → ℕ → ℕ → Option CutStep
flagged_between c i j = option_map (marked (flag_of c.critical j)) (step_between c.problem (relaxed c) i j)

abbrev pub flagged_moves : Cut → MoveRules CutValue CutStep
flagged_moves c = record {
  calls = calls c.problem;
  begin = λ j. option_and_then (cut_rules.extended (at_start c.problem)) (flagged_between c 0 j);
  step = flagged_between c;
}
