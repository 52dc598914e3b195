-- What a solver owes.
use Rattle.std.specs.Prelude.{◌≡◌, ℕ, ◌+◌, ◌%◌, ◌^◌, ◌≤◌, List, [], ◌∷◌, length, map}
use Rattle.std.specs.List.{AllByRecursion, Contains}
use Rattle.std.specs.declared.option.Option.{Option}
use Rattle.std.specs.declared.option.Option.TheVariants.{None, Some}
use Rattle.std.specs.declared.result.Result.TheVariants.{Ok}
use Rattle.orienteering.specs.Instance.{Problem}
use Rattle.orienteering.specs.Tour.{IsPlan}
use Rattle.orienteering.specs.Frontier.{point_of, IsCovered}
use Rattle.orienteering.specs.Certificate.{Certificate, Acceptance}
use Rattle.orienteering.specs.Decide.{decide}
use Rattle.insert_heur.specs.Insertion.{insertion}
use Rattle.orienteering.specs.declared.Listed.{Listed}
use Rattle.orienteering.specs.declared.Node.{Node}
use Rattle.orienteering.specs.declared.Node.TheVariants.{Left}

-- the verdict on the certificate is a yes, where a replay may keep so many undominated states
abbrev pub IsAccepted : Problem → ℕ → Certificate → Type 0
IsAccepted p labels c = (a : Acceptance) × (decide p labels c ≡ Ok a)

-- some node is open
abbrev pub HasOpenNode : List Node → Type 0
HasOpenNode nodes = Contains nodes Left

-- without a budget no node is open; with one there is at most one node more, and a node is open only where there are as many
abbrev pub KeepsBudget : Option ℕ → List Node → Type 0
KeepsBudget None nodes = HasOpenNode nodes → ⊥
KeepsBudget (Some budget) nodes = (length nodes ≤ budget + 1) × (HasOpenNode nodes → budget ≤ length nodes)

-- each of these lists of tours that is a plan is weakly dominated by a listed point
abbrev pub CoversPlans : Problem → List (List (List ℕ)) → List Listed → Type 0
CoversPlans p plans points = AllByRecursion (λ plan. IsPlan p plan → IsCovered (point_of p plan) points) plans

-- the seeds of the starting plans: the seed and the three numbers after it, modulo 2^64
abbrev pub start_seeds : ℕ → List ℕ
start_seeds seed = seed ∷ (seed + 1) % 2 ^ 64 ∷ (seed + 2) % 2 ^ 64 ∷ (seed + 3) % 2 ^ 64 ∷ []

-- the starting plans are insertions that weigh profit alone
abbrev pub start_plan : Problem → ℕ → List (List ℕ)
start_plan p seed = insertion p seed (record { alpha = 1; beta = 0 })

abbrev pub start_plans : Problem → ℕ → List (List (List ℕ))
start_plans p seed = map (start_plan p) (start_seeds seed)

-- so many nodes use the budget up; without one, none do
abbrev pub UsesUp : Option ℕ → ℕ → Type 0
UsesUp None count = ⊥
UsesUp (Some budget) count = budget ≤ count

-- The certificate solves the instance: it is accepted, keeps the budget of nodes, leaves a box only where that is used up, and
-- each starting plan is weakly dominated by a listed point.
pub record IsSolved (p : Problem) (labels : ℕ) (budget : Option ℕ) (seed : ℕ) (c : Certificate) : Type 0 where
  pub accepted : IsAccepted p labels c
  pub within : KeepsBudget budget c.nodes
  pub boxes : (a : Acceptance) → decide p labels c ≡ Ok a → (a.boxes ≡ [] → ⊥) → UsesUp budget (length c.nodes)
  pub starts : AllByRecursion (λ plan. IsCovered (point_of p plan) c.points) (start_plans p seed)
