-- What else holds of regions.
use Rattle.std.specs.Prelude.{◌≡◌, ℕ, ◌≤◌, List, Contains, IsTrue}
use Rattle.std.specs.List.{concat}
use Rattle.orienteering.specs.Instance.{Problem, calls, IsCall}
use Rattle.orienteering.specs.Tour.{IsPlan}
use Rattle.orienteering.specs.declared.Box2.{Box2}
use Rattle.orienteering.specs.declared.Split.{Split}
use Rattle.orienteering.specs.Region.{Region, Agrees, is_forced, tight_box, MakesProgress, first_child, second_child}

-- each plan of a region visits each forced call
abbrev pub ForcedCallsAreVisited : Type 0
ForcedCallsAreVisited =
    (p : Problem) (r : Region) (plan : List (List ℕ)) (c : ℕ) → r.calls ≡ calls p → IsPlan p plan → Agrees p r plan →
    IsCall p c → IsTrue (is_forced r c) → Contains (concat plan) c

-- each end of the box lies within the other
pub record IsWithin (inner outer : Box2) : Type 0 where
  pub p_low : outer.p_lo ≤ inner.p_lo
  pub p_high : inner.p_hi ≤ outer.p_hi
  pub t_low : outer.t_lo ≤ inner.t_lo
  pub t_high : inner.t_hi ≤ outer.t_hi

-- the tight box of a part lies within the tight box of the whole
abbrev pub TightBoxesNarrow : Type 0
TightBoxesNarrow =
    (p : Problem) (r : Region) (s : Split) → MakesProgress r s →
    IsWithin (tight_box p (first_child r s)) (tight_box p r) × IsWithin (tight_box p (second_child r s)) (tight_box p r)
