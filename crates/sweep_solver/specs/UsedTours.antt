-- Tours along used arcs.
use Rattle.std.specs.Prelude.{◌≡◌, ℕ, ◌+◌, ◌≤◌, List, [], ◌∷◌, ◌++◌, length}
use Rattle.std.specs.List.{AllByRecursion}
use Rattle.orienteering.specs.Instance.{IsCallAmong}
use Rattle.orienteering.specs.Region.{Region, IsUsedPath}

-- the tour begins with this call, travels used arcs from the start to the end, and has no more calls than there are
pub record IsUsedTour (r : Region) (first : ℕ) (tour : List ℕ) : Type 0 where
  pub rest : List ℕ
  pub begins : tour ≡ first ∷ rest
  pub path : IsUsedPath r 0 (tour ++ (r.calls + 1) ∷ [])
  pub calls : AllByRecursion (IsCallAmong r.calls) tour
  pub short : length tour ≤ r.calls
