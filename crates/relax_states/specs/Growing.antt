-- A critical set for which a replay was made.
use Rattle.std.specs.Prelude.{◌≡◌, ◌↔◌, ℕ, ◌≤◌, true, false, IsTrue, List, length, None}
use Rattle.orienteering.specs.Duality.{BoundsTours}
use Rattle.orienteering.specs.Instance.{Problem, calls}
use Rattle.orienteering.specs.Region.{Region}
use Rattle.orienteering.specs.Replay.{relaxation, is_critical_set}
use Rattle.orienteering.specs.Sigma.{sigma}
use Rattle.orienteering.specs.declared.Price.{Price}
use Rattle.label_engine.specs.Greatest.{sigma_of, HasWalk, is_open_tour}
use Rattle.label_engine.specs.declared.replay.Outcome.{Outcome}
use Rattle.relax_states.specs.declared.growing.Relaxed.{Relaxed}
use Rattle.relax_states.specs.Elementary.{IsTourOutcome, IsStopped, states}
use Rattle.relax_states.specs.Repeats.{repeated}

-- the set has so many calls and at most so many undominated states, and the outcome is its own
pub record IsReplayed (p : Problem) (now : Region) (price : Price) (limit size : ℕ) (critical : List ℕ) (outcome : Outcome) : Type 0 where
  pub set : is_critical_set (calls p) critical ≡ true
  pub size_is : length critical ≡ size
  pub sigma_is : sigma_of outcome ≡ sigma p (relaxation now price critical)
  pub walk_is : HasWalk p (relaxation now price critical) outcome
  pub tours_bounded : BoundsTours p price (is_open_tour p now) (sigma_of outcome)
  pub few : states p now price critical ≤ limit

-- the answer is that of its set, and the set grew as far as it can
pub record IsGrown (p : Problem) (now : Region) (price : Price) (limit : ℕ) (a : Relaxed) : Type 0 where
  pub set : is_critical_set (calls p) a.critical ≡ true
  pub sigma_is : sigma_of a.outcome ≡ sigma p (relaxation now price a.critical)
  pub walk_is : HasWalk p (relaxation now price a.critical) a.outcome
  pub few : states p now price a.critical ≤ limit
  pub elementary : IsTrue a.elementary ↔ (repeated a.outcome ≡ None)
  pub tours : IsTrue a.elementary → IsTourOutcome p now price a.outcome
  pub stopped : a.elementary ≡ false → IsStopped p now price limit a.critical a.outcome
