-- What the greatest value of a relaxed walk is answered as, and how it is found among settled labels.
use Rattle.std.specs.Prelude.{◌≡◌, ℕ, ◌+◌, ◌<◌, ◌≤◌, Bool, ℤ, ◌≤ℤ◌, int_le, unsigned_abs, List, length, slice_index_or, All, Option, None, Some, MatchOption, if◌then◌else◌}
use Rattle.std.specs.Bool.{⊤}
use Rattle.label_core.specs.Worth.{most}
use Rattle.label_engine.specs.Cut.{CutValue, Cut, cut_rules, relaxed, closed_value, IsVisit, flagged_moves}
use Rattle.label_engine.specs.Settled.{state_of, HasMoreThan}
use Rattle.label_engine.specs.declared.replay.Closed.{Closed}
use Rattle.label_engine.specs.declared.replay.Outcome.{Outcome}
use Rattle.label_engine.specs.declared.replay.Outcome.TheVariants.{NoWalk, Best}
use Rattle.label_engine.specs.declared.label.Label.{Label}
use Rattle.label_engine.specs.declared.visit.Visit.{Visit}
use Rattle.orienteering.specs.Instance.{Problem, calls, IsCall}
use Rattle.orienteering.specs.Region.{Region, is_shut}
use Rattle.orienteering.specs.Sigma.{is_open_along, sigma}
use Rattle.orienteering.specs.Tour.{stops}
use Rattle.orienteering.specs.Walk.{Relaxation, IsRelaxedWalk, walk_value}

-- the answered value, and none where there is no walk
abbrev pub sigma_of : Outcome → Option ℤ
sigma_of NoWalk = None
sigma_of (Best sigma walk) = Some sigma

-- the walk is a relaxed walk with the value
pub record IsWalkOf (p : Problem) (r : Relaxation) (value : ℤ) (walk : List ℕ) : Type 0 where
  pub relaxed : IsRelaxedWalk p r walk
  pub reaches : walk_value p r walk ≡ value

abbrev pub HasWalk : Problem → Relaxation → Outcome → Type 0
HasWalk p r NoWalk = ⊤
HasWalk p r (Best sigma walk) = IsWalkOf p r sigma walk

-- no arc of the tour is shut
abbrev pub is_open_tour : Problem → Region → List ℕ → Bool
is_open_tour p now tour = is_open_along (is_shut now) 0 (stops p tour)

-- the outcome is that of the cut, and there are not more than so many states that no different one covers
pub record IsAnswer (c : Cut) (limit : ℕ) (outcome : Outcome) : Type 0 where
  pub sigma : sigma_of outcome ≡ sigma c.problem (relaxed c)
  pub walk : HasWalk c.problem (relaxed c) outcome
  pub few : ¬ HasMoreThan cut_rules (flagged_moves c) limit (calls c.problem)

-- ---- the best of some labels

-- a label at a call, with a sum that is no greater than where sums stop
pub record IsAtCall (c : Cut) (label : Label CutValue) : Type 0 where
  pub call : IsCall c.problem label.call
  pub sum : unsigned_abs label.state.b.b.sum ≤ most

abbrev pub value_of : Cut → Label CutValue → Option ℤ
value_of c label = closed_value c.problem (relaxed c) (state_of label)

-- the label at the place can go to the end with the value, and no label can with more
pub record IsBestAt (c : Cut) (labels : List (Label CutValue)) (best : Closed) : Type 0 where
  pub within : best.place < length labels
  pub closed : (d : Label CutValue) → value_of c (slice_index_or labels best.place d) ≡ Some best.value
  pub greatest : All (λ label. (w : ℤ) → value_of c label ≡ Some w → w ≤ℤ best.value) labels

-- the best label, and none where no label can go to the end
abbrev pub IsBest : Cut → List (Label CutValue) → Option Closed → Type 0
IsBest c labels best = MatchOption best (All (λ label. value_of c label ≡ None) labels) (IsBestAt c labels)

-- the better of the best so far and the label at a place, whose value is given where it can go to the end
abbrev pub better : Option Closed → ℕ → Option ℤ → Option Closed
better best place None = best
better None place (Some value) = Some (record { place = place; value = value })
better (Some best) place (Some value) =
    if int_le value best.value then Some best else Some (record { place = place; value = value })

-- ---- visits

-- what each call's visit is, from call 1 on
pub record AreVisits (c : Cut) (visits : List Visit) : Type 0 where
  pub count : length visits ≡ calls c.problem
  pub each : (k : ℕ) (d : Visit) → k < length visits → IsVisit c (k + 1) (slice_index_or visits k d)
