-- The greatest value of a pool tour that a region still allows.
use Rattle.std.specs.Prelude.{◌≡◌, ℕ, Bool, true, false, List, Contains, ℤ, ◌≤ℤ◌, Option, None, Some, MatchOption, if◌then◌else◌}
use Rattle.std.specs.Int.{int_max}
use Rattle.std.specs.List.{AllByRecursion}
use Rattle.orienteering.specs.Instance.{Problem}
use Rattle.orienteering.specs.Price.{tour_worth}
use Rattle.orienteering.specs.Region.{Region, is_shut}
use Rattle.orienteering.specs.Sigma.{is_open_along}
use Rattle.orienteering.specs.Tour.{stops}
use Rattle.orienteering.specs.declared.Price.{Price}
use Rattle.pool_cols.specs.Pool.{Column}

-- no arc of the tour is shut
abbrev pub is_open_tour : Problem → Region → List ℕ → Bool
is_open_tour p now tour = is_open_along (is_shut now) 0 (stops p tour)

-- the value is that of an open tour of the pool, and no open tour of the pool has more
pub record IsGreatestValue (p : Problem) (now : Region) (price : Price) (pool : List Column) (value : ℤ) : Type 0 where
  pub reached : (c : Column) × Contains pool c × (is_open_tour p now c.0 ≡ true) × (tour_worth p price c.0 ≡ value)
  pub greatest : AllByRecursion (λ c. is_open_tour p now c.0 ≡ true → tour_worth p price c.0 ≤ℤ value) pool

-- the greatest value of an open tour of the pool, and none where no tour of the pool is open
abbrev pub IsPoolSigma : Problem → Region → Price → List Column → Option ℤ → Type 0
IsPoolSigma p now price pool sigma =
    MatchOption sigma (AllByRecursion (λ c. is_open_tour p now c.0 ≡ false) pool) (IsGreatestValue p now price pool)

-- the value of a tour, and none where an arc of it is shut
abbrev pub open_value : Problem → Region → Price → Column → Option ℤ
open_value p now price c = if is_open_tour p now c.0 then Some (tour_worth p price c.0) else None

abbrev pub better_of : Option ℤ → Option ℤ → Option ℤ
better_of best None = best
better_of None (Some v) = Some v
better_of (Some b) (Some v) = Some (int_max b v)
