-- What a solver owes that goes on from a certificate.
use Rattle.std.specs.Prelude.{◌≡◌, ℕ, ◌+◌, ◌^◌, ◌≤◌, List, [], length}
use Rattle.std.specs.List.{AllByRecursion, Contains}
use Rattle.std.specs.declared.option.Option.{Option}
use Rattle.std.specs.declared.option.Option.TheVariants.{None, Some}
use Rattle.std.specs.declared.result.Result.TheVariants.{Ok}
use Rattle.orienteering.specs.Instance.{Problem}
use Rattle.orienteering.specs.Frontier.{point_of, IsCovered}
use Rattle.orienteering.specs.Certificate.{Certificate, Acceptance}
use Rattle.orienteering.specs.Decide.{decide}
use Rattle.orienteering.specs.declared.Box2.{Box2}
use Rattle.orienteering.specs.declared.Node.{Node}
use Rattle.growth.specs.Growth.{IsWithin, LiesWithin, with_trees}
use Rattle.sweep_solver.specs.Solved.{IsAccepted, UsesUp, start_plans}

-- the verdict on the certificate leaves no box
abbrev pub LeavesNoBox : Problem → ℕ → Certificate → Type 0
LeavesNoBox p labels c = (a : Acceptance) → decide p labels c ≡ Ok a → a.boxes ≡ []

-- each box lies in one of the old ones
abbrev pub LieWithin : List Box2 → List Box2 → Type 0
LieWithin old boxes = AllByRecursion (λ b. (c : Box2) × Contains old c × LiesWithin b c) boxes

-- the budget of a whole tree, of which so many nodes are there
abbrev pub budget_after : ℕ → Option ℕ → Option ℕ
budget_after count None = None
budget_after count (Some more) = Some (count + more)

-- the limit of nodes is this budget, or there is none where no number of 64 bits is the budget
abbrev pub IsLimitAfter : ℕ → Option ℕ → Option ℕ → Type 0
IsLimitAfter count None limit = limit ≡ None
IsLimitAfter count (Some more) None = 2 ^ 64 ≤ count + more
IsLimitAfter count (Some more) (Some limit) = limit ≡ count + more

-- The certificate goes on from the old one: it is accepted, and is the same where that leaves no box. Its tree is the
-- old one, with trees in the places of open nodes. Each old point is weakly dominated by a listed one, and so is each
-- starting plan where the old one leaves a box. Each box lies in an old one. The budget counts the nodes that the old
-- one didn't have, and a box is left only where it is used up.
pub record IsResumed (p : Problem) (labels : ℕ) (budget : Option ℕ) (seed : ℕ) (old c : Certificate) : Type 0 where
  pub accepted : IsAccepted p labels c
  pub same : LeavesNoBox p labels old → c ≡ old
  pub tree : (trees : List (List Node)) × (c.nodes ≡ with_trees old.nodes trees)
  pub kept : AllByRecursion (λ l. IsCovered l.point c.points) old.points
  pub starts : (LeavesNoBox p labels old → ⊥) →
      AllByRecursion (λ plan. IsCovered (point_of p plan) c.points) (start_plans p seed)
  pub within : (a b : Acceptance) → decide p labels old ≡ Ok a → decide p labels c ≡ Ok b → LieWithin a.boxes b.boxes
  pub few : IsWithin (budget_after (length old.nodes) budget) (length c.nodes)
  pub boxes : (a : Acceptance) → decide p labels c ≡ Ok a → (a.boxes ≡ [] → ⊥) →
      UsesUp (budget_after (length old.nodes) budget) (length c.nodes)
