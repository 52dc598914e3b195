-- The lengths between all places, row by row.
use Rattle.std.specs.Prelude.{◌≡◌, ℕ, List, map}
use Rattle.std.specs.List.{flat_map}
use Rattle.orienteering.specs.Instance.{Problem, distance}
use Rattle.orienteering.specs.Limits.{IsInstance}
use Rattle.orienteering.specs.declared.Place.{Place}

-- the lengths from a place to all places
abbrev pub lengths_from : ℕ → List Place → Place → List ℕ
lengths_from scale places a = map (distance scale a) places

-- the lengths from each place in turn
unfoldable pub length_table : ℕ → List Place → List ℕ
length_table scale places = flat_map (lengths_from scale places) places

-- what an instance keeps
pub record IsKept (p : Problem) (lengths : List ℕ) : Type 0 where
  pub within : IsInstance p
  pub table : lengths ≡ length_table p.scale p.sites
