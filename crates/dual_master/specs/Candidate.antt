-- A price that is rated over a pool.
use Rattle.std.specs.Prelude.{◌≡◌, ℕ, ◌+◌, ◌^◌, ◌≤◌, List, length, ℤ, pos, ◌≤ℤ◌, Option, MatchOption, slice_index_or}
use Rattle.orienteering.specs.Instance.{Problem, calls}
use Rattle.orienteering.specs.Price.{IsFit, bound, price_of}
use Rattle.orienteering.specs.Region.{Region, is_forced}
use Rattle.orienteering.specs.declared.Price.{Price}
use Rattle.pool_cols.specs.Pool.{Column}
use Rattle.price_bound.specs.Magnitude.{IsWithin}
use Rattle.dual_master.specs.Sigma.{IsPoolSigma}

-- as small as the bound of a price asks
abbrev pub IsSmallSigma : Option ℤ → Type 0
IsSmallSigma sigma = MatchOption sigma (Unit {0}) (IsWithin (10 ^ 24))

-- the bound of a price with the greatest value over the pool
pub record IsRated (p : Problem) (now : Region) (pool : List Column) (price : Price) (sigma : Option ℤ) (value : ℤ) : Type 0 where
  pub fit : IsFit (calls p) (is_forced now) price
  pub sigma_is : IsPoolSigma p now price pool sigma
  pub bound_is : value ≡ bound price sigma now.fewest now.most
  pub small : IsWithin (10 ^ 23) value
  pub sigma_small : IsSmallSigma sigma

-- the number is at most the bound of the price with its own sigma
abbrev pub IsNoWorse : Problem → Region → List Column → Price → ℤ → Type 0
IsNoWorse p now pool price value =
    (own : Option ℤ) → IsPoolSigma p now price pool own → value ≤ℤ bound price own now.fewest now.most

-- the price of each call stands at its number
pub record IsTableOf (last : ℕ) (entries : List (ℕ × ℤ)) (table : List ℤ) : Type 0 where
  pub size : length table ≡ last + 1
  pub prices : (call : ℕ) → call ≤ last → slice_index_or table call (pos 0) ≡ price_of entries call
