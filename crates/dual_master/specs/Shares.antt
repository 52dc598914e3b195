-- Shares of tours, in parts of a million.
use Rattle.std.specs.Prelude.{◌≡◌, ℕ, ◌+◌, ◌*◌, ◌<◌, ◌≤◌, Bool, true, List, [], ◌∷◌, length, ℤ, pos, ◌+ℤ◌, ◌*ℤ◌, sum_by, nat_eq, slice_index_or, if◌then◌else◌}
use Rattle.std.specs.List.{AllByRecursion, AllPairs, list_any}
use Rattle.orienteering.specs.Instance.{Problem}
use Rattle.orienteering.specs.Price.{weighted}
use Rattle.orienteering.specs.Region.{Region}
use Rattle.orienteering.specs.declared.Price.{Price}
use Rattle.pool_cols.specs.Pool.{Column}
use Rattle.dual_master.specs.Sigma.{is_open_tour}

abbrev pub whole_tour : ℕ
whole_tour = 1000000

-- the place of a tour and its parts
abbrev pub Share : Type 0
Share = ℕ × ℕ

abbrev pub no_column : Column
no_column = ([], record { profit = 0; time = 0 })

abbrev pub column : List Column → ℕ → Column
column pool place = slice_index_or pool place no_column

abbrev pub visits : ℕ → List ℕ → Bool
visits call tour = list_any (nat_eq call) tour

-- the parts of all tours, and of those through a call
abbrev pub all_parts : List Share → ℕ
all_parts shares = sum_by (λ s. s.1) shares

abbrev pub parts_through : List Column → ℕ → List Share → ℕ
parts_through pool call shares = sum_by (λ s. if visits call (column pool s.0).0 then s.1 else 0) shares

-- the parts times what the tours are worth before the prices of their calls
abbrev pub worth_of : Price → List Column → List Share → ℤ
worth_of price pool [] = pos 0
worth_of price pool (s ∷ ss) = (pos s.1 *ℤ weighted price (column pool s.0).1) +ℤ worth_of price pool ss

-- shares by rising places, of open tours alone; no call is visited more than once in all, and there are no more tours
-- than the region allows
pub record AreShares (p : Problem) (now : Region) (pool : List Column) (shares : List Share) : Type 0 where
  pub rising : AllPairs (λ s t. s.0 < t.0) shares
  pub places : AllByRecursion (λ s. s.0 < length pool) shares
  pub open_tours : AllByRecursion (λ s. is_open_tour p now (column pool s.0).0 ≡ true) shares
  pub each_call : (call : ℕ) → parts_through pool call shares ≤ whole_tour
  pub all_tours : all_parts shares ≤ now.most * whole_tour

-- shares of tours at places before this one, with the room that is left on each call and the parts that are left in all
pub record IsBalanced (p : Problem) (now : Region) (pool : List Column) (before : ℕ) (room : List ℕ) (left : ℕ) (shares : List Share) : Type 0 where
  pub size : length room ≡ now.calls + 1
  pub rising : AllPairs (λ s t. s.0 < t.0) shares
  pub earlier : AllByRecursion (λ s. s.0 < before) shares
  pub places : AllByRecursion (λ s. s.0 < length pool) shares
  pub open_tours : AllByRecursion (λ s. is_open_tour p now (column pool s.0).0 ≡ true) shares
  pub each_call : (call : ℕ) → parts_through pool call shares + slice_index_or room call 0 ≤ whole_tour
  pub all_tours : all_parts shares + left ≤ now.most * whole_tour
