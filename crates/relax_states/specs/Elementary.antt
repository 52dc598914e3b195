-- What an outcome says of tours, and why a critical set grows no further.
use Rattle.std.specs.Prelude.{◌≡◌, ℕ, ◌<◌, ◌⊎◌, true, List, length, ℤ, ◌≤ℤ◌, Some}
use Rattle.orienteering.specs.Instance.{Problem}
use Rattle.orienteering.specs.Price.{tour_worth}
use Rattle.orienteering.specs.Region.{Region}
use Rattle.orienteering.specs.Replay.{relaxation, most_critical}
use Rattle.orienteering.specs.Sigma.{undominated}
use Rattle.orienteering.specs.Tour.{IsFeasibleTour}
use Rattle.orienteering.specs.declared.Price.{Price}
use Rattle.label_engine.specs.Greatest.{is_open_tour}
use Rattle.label_engine.specs.declared.replay.Outcome.{Outcome}
use Rattle.label_engine.specs.declared.replay.Outcome.TheVariants.{NoWalk, Best}
use Rattle.relax_states.specs.Repeats.{repeated}
use Rattle.relax_states.specs.CriticalSet.{with_call}

-- a feasible tour that travels no shut arc
pub record IsOpenTour (p : Problem) (now : Region) (tour : List ℕ) : Type 0 where
  pub feasible : IsFeasibleTour p tour
  pub open_arcs : is_open_tour p now tour ≡ true

-- a feasible tour without a shut arc that is worth so much, and none is worth more
pub record IsBestTour (p : Problem) (now : Region) (price : Price) (sigma : ℤ) (tour : List ℕ) : Type 0 where
  pub tour_is : IsOpenTour p now tour
  pub worth : tour_worth p price tour ≡ sigma
  pub greatest : (other : List ℕ) → IsOpenTour p now other → tour_worth p price other ≤ℤ sigma

-- the outcome is that of tours: the best feasible tour without a shut arc, or there is none
abbrev pub IsTourOutcome : Problem → Region → Price → Outcome → Type 0
IsTourOutcome p now price NoWalk = (tour : List ℕ) → IsOpenTour p now tour → ⊥
IsTourOutcome p now price (Best sigma walk) = IsBestTour p now price sigma walk

-- how many states of fronts are undominated where these calls are critical
abbrev pub states : Problem → Region → Price → List ℕ → ℕ
states p now price critical = length (undominated p (relaxation now price critical))

-- the walk repeats a call, and the set is full, or has too many undominated states with the first such call
pub record IsStopped (p : Problem) (now : Region) (price : Price) (limit : ℕ) (critical : List ℕ) (outcome : Outcome) : Type 0 where
  pub call : ℕ
  pub repeats : repeated outcome ≡ Some call
  pub ends : (length critical ≡ most_critical) ⊎ (limit < states p now price (with_call critical call))
