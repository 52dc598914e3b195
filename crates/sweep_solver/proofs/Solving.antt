-- What is grown from the starting plans of a seed solves the instance.
use Rattle.std.proofs.Common.{◌≡◌, ℕ, List, [], ◌∷◌, Option, Result, Ok, Err, subst}
use Rattle.std.specs.Prelude.{map, IfOk}
use Rattle.std.specs.List.{AllByRecursion}
use Rattle.orienteering.specs.Instance.{Problem}
use Rattle.orienteering.specs.Frontier.{point_of, IsCovered}
use Rattle.orienteering.specs.Certificate.{Certificate}
use Rattle.orienteering.specs.declared.Listed.{Listed}
use Rattle.insert_heur.proofs.Finish.{insertions_finish}
use Rattle.sweep_solver.specs.Solved.{CoversPlans, IsAccepted, IsSolved, KeepsBudget, start_plan, start_plans, start_seeds}
use Rattle.sweep_solver.proofs.Boxes.{boxes_use_up}

-- starting plans are plans
pub starts_covered : (p : Problem) (points : List Listed) (seeds : List ℕ) → CoversPlans p (map (start_plan p) seeds) points →
    AllByRecursion (λ plan. IsCovered (point_of p plan) points) (map (start_plan p) seeds)
starts_covered p points [] covers = tt
starts_covered p points (seed ∷ seeds) covers =
    (covers.0 (insertions_finish p seed (record { alpha = 1; beta = 0 })).valid, starts_covered p points seeds covers.1)

pub solved : (p : Problem) (labels : ℕ) (budget : Option ℕ) (seed : ℕ) (starts : List (List (List ℕ))) → starts ≡ start_plans p seed →
    (c : Certificate) → IsAccepted p labels c → KeepsBudget budget c.nodes → CoversPlans p starts c.points → IsSolved p labels budget seed c
solved p labels budget seed starts same c accepted within covers = record {
  accepted = accepted;
  within = within;
  boxes = boxes_use_up p labels budget c within;
  starts = starts_covered p c.points (start_seeds seed) (subst (λ plans. CoversPlans p plans c.points) same covers);
}

pub solved_if_ok : {E : Type 0} (p : Problem) (labels : ℕ) (budget : Option ℕ) (seed : ℕ) (starts : List (List (List ℕ))) → starts ≡ start_plans p seed →
    (r : Result Certificate E) → IfOk r (IsAccepted p labels) → IfOk r (λ c. KeepsBudget budget c.nodes) →
    IfOk r (λ c. CoversPlans p starts c.points) → IfOk r (IsSolved p labels budget seed)
solved_if_ok p labels budget seed starts same (Ok c) accepted within covers = solved p labels budget seed starts same c accepted within covers
solved_if_ok p labels budget seed starts same (Err e) accepted within covers = tt
