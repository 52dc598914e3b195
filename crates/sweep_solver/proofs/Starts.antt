-- Starting plans that are offered one by one stay covered.
use Rattle.std.proofs.Common.{◌≡◌, ℕ, List, [], ◌∷◌, ◌++◌, sym, subst}
use Rattle.orienteering.specs.Instance.{Problem}
use Rattle.orienteering.specs.Tour.{IsPlan}
use Rattle.orienteering.specs.Frontier.{point_of, IsCovered}
use Rattle.orienteering.specs.declared.Listed.{Listed}
use Rattle.orienteering.proofs.Lists.{AllByRecursion-push, AllByRecursion-weaker}
use Rattle.growth.specs.Growth.{Improves}
use Rattle.growth.proofs.Archives.{covered_again}
use Rattle.sweep_solver.specs.Solved.{CoversPlans}

-- the plans that were covered and the one that was offered
pub one_more : (p : Problem) (left rest : List (List (List ℕ))) (plan : List (List ℕ)) (held points : List Listed) →
    left ≡ rest ++ plan ∷ [] → (IsPlan p plan → IsCovered (point_of p plan) held) → Improves held points →
    CoversPlans p rest points → CoversPlans p left points
one_more p left rest plan held points split offered improves covered =
    subst (λ plans. CoversPlans p plans points) (sym split)
    (AllByRecursion-push (λ plan. IsPlan p plan → IsCovered (point_of p plan) points) rest plan covered
    (λ is. covered_again (point_of p plan) held points improves (offered is)))

-- the plan that was offered first and those after it
pub first_more : (p : Problem) (plans rest : List (List (List ℕ))) (plan : List (List ℕ)) (held points : List Listed) →
    plans ≡ plan ∷ rest → (IsPlan p plan → IsCovered (point_of p plan) held) → Improves held points →
    CoversPlans p rest points → CoversPlans p plans points
first_more p plans rest plan held points split offered improved covered =
    subst (λ plans. CoversPlans p plans points) (sym split)
    ((λ is. covered_again (point_of p plan) held points improved (offered is)), covered)

pub none_left : (p : Problem) (left : List (List (List ℕ))) (points : List Listed) → left ≡ [] → CoversPlans p left points
none_left p left points none = subst (λ plans. CoversPlans p plans points) (sym none) tt

-- better points cover what was covered
pub covers_still : (p : Problem) (plans : List (List (List ℕ))) (held points : List Listed) → Improves held points →
    CoversPlans p plans held → CoversPlans p plans points
covers_still p plans held points improves covered =
    AllByRecursion-weaker (λ plan. IsPlan p plan → IsCovered (point_of p plan) held)
    (λ plan. IsPlan p plan → IsCovered (point_of p plan) points)
    (λ plan c is. covered_again (point_of p plan) held points improves (c is)) plans covered
