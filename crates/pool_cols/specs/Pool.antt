-- A pool of tours: each once, in the order of arrival, with its point.
use Rattle.std.specs.Prelude.{◌≡◌, ℕ, Bool, List, [], ◌∷◌, ◌++◌, map, nat_eq, if◌then◌else◌}
use Rattle.std.specs.List.{AllByRecursion, IsDistinct, list_any, position_or_len}
use Rattle.std.specs.Cmp.Lexicographic.{pointwise}
use Rattle.orienteering.specs.Instance.{Problem}
use Rattle.orienteering.specs.Tour.{IsFeasibleTour}
use Rattle.orienteering.specs.PlanCheck.{tour_point}
use Rattle.orienteering.specs.declared.Point.{Point}

-- a tour with its point
abbrev pub Column : Type 0
Column = List ℕ × Point

abbrev pub tours_of : List Column → List (List ℕ)
tours_of pool = map (λ c. c.0) pool

abbrev pub same_calls : List ℕ → List ℕ → Bool
same_calls = pointwise nat_eq

-- the place of the tour, and the number of tours where it is not there
abbrev pub place_of : List Column → List ℕ → ℕ
place_of pool tour = position_or_len (same_calls tour) (tours_of pool)

-- a tour that is there changes nothing, and a new one goes last with its point
abbrev pub with_tour : Problem → List Column → List ℕ → List Column
with_tour p pool tour = if list_any (same_calls tour) (tours_of pool) then pool else pool ++ (tour, tour_point p tour) ∷ []

-- no tour stands twice
abbrev pub IsOnceEach : List Column → Type 0
IsOnceEach pool = IsDistinct same_calls (tours_of pool)

-- the tour is one of the instance, and the point is its point there
pub record IsColumnOf (p : Problem) (c : Column) : Type 0 where
  pub feasible : IsFeasibleTour p c.0
  pub point : c.1 ≡ tour_point p c.0

-- each tour of the pool is
abbrev pub IsPoolOf : Problem → List Column → Type 0
IsPoolOf p pool = AllByRecursion (IsColumnOf p) pool
