-- Trees that a search has grown so far.
use Rattle.std.specs.Prelude.{◌≡◌, ℕ, ◌⊎◌, List, length}
use Rattle.std.specs.List.{AllByRecursion}
use Rattle.std.specs.declared.option.Option.{Option}
use Rattle.std.specs.declared.result.Result.TheVariants.{Ok}
use Rattle.orienteering.specs.Instance.{Problem}
use Rattle.orienteering.specs.Region.{Region, root}
use Rattle.orienteering.specs.Preorder.{Leaf}
use Rattle.orienteering.specs.Decision.{Branch, read_nodes}
use Rattle.orienteering.specs.Decide.{region_rules}
use Rattle.orienteering.specs.declared.Listed.{Listed}
use Rattle.orienteering.specs.declared.Node.{Node}
use Rattle.growth.specs.Growth.{IsGrown, IsSpent, IsWithin}

-- the checker reads the nodes as a tree over the whole instance, and they are at most one more than the budget
pub record IsTreeWithin (p : Problem) (labels : ℕ) (points : List Listed) (limit : Option ℕ) (nodes : List Node) : Type 0 where
  pub leaves : List (Leaf (Branch Region) Node)
  pub accepted : read_nodes (region_rules p labels) points (root p) nodes ≡ Ok leaves
  pub few : IsWithin limit (length nodes)

-- no node is open, or the budget is spent
abbrev pub IsClosedWithin : Option ℕ → List Node → Type 0
IsClosedWithin limit nodes = AllByRecursion IsGrown nodes ⊎ IsSpent limit (length nodes)
