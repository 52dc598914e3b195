-- A certificate of this instance whose points are an archive and whose tree is read to its end is accepted.
use Rattle.std.proofs.Common.{◌≡◌, ℕ, suc, ◌+◌, ◌<◌, true, cond, not, ◌&&◌, nat_eq, nat_lt, List, [], ◌∷◌, length, refl, ap, subst, ◌∙◌, add-one, arith, inl, inr, ◌⊎◌, Contains}
use Rattle.std.proofs.lemmas.Bool.Decides.{nat_tests}
use Rattle.std.specs.List.{AllByRecursion}
use Rattle.std.specs.declared.option.Option.{Option}
use Rattle.std.specs.declared.option.Option.TheVariants.{None, Some}
use Rattle.std.specs.declared.result.Result.{Result}
use Rattle.std.specs.declared.result.Result.TheVariants.{Ok, Err}
use Rattle.orienteering.specs.Instance.{Problem, calls}
use Rattle.orienteering.specs.Frontier.{point_of, IsReached, AllRise}
use Rattle.orienteering.specs.PlanCheck.{same_point, listed_refusal, rises_from, points_refusal}
use Rattle.orienteering.specs.Preorder.{Leaf}
use Rattle.orienteering.specs.Decision.{Branch}
use Rattle.orienteering.specs.Certificate.{Certificate}
use Rattle.orienteering.specs.Decide.{read_certificate, boxes_left, is_for, decide, decide_tree}
use Rattle.orienteering.specs.Region.{Region}
use Rattle.orienteering.specs.declared.Point.{Point}
use Rattle.orienteering.specs.declared.Listed.{Listed}
use Rattle.orienteering.specs.declared.Node.{Node}
use Rattle.orienteering.specs.declared.Node.TheVariants.{Left}
use Rattle.orienteering.specs.declared.PlanRefusal.{PlanRefusal}
use Rattle.orienteering.specs.declared.PointWhy.TheVariants.{Plan, WrongValue}
use Rattle.orienteering.specs.declared.CheckFail.{CheckFail}
use Rattle.orienteering.specs.declared.CheckFail.TheVariants.{OtherInstance, PointRefused, NotRising}
use Rattle.orienteering.proofs.Lists.{AllByRecursion-contains}
use Rattle.orienteering.proofs.Members.{nat_eq_itself}
use Rattle.orienteering.proofs.Points.{Rise}
use Rattle.orienteering.proofs.PlanCheck.{plans_are_accepted}
use Rattle.growth.specs.Growth.{IsArchive, IsGrown, IsSpent, IsWithin}
use Rattle.sweep_solver.specs.Solved.{KeepsBudget}

both_same : (a b : ℕ) → (nat_eq a a && nat_eq b b) ≡ true
both_same a b = ap (λ t. t && nat_eq b b) (nat_eq_itself a) ∙ nat_eq_itself b

same_point_passes : (a b : Point) → a ≡ b → same_point a b ≡ true
same_point_passes a b e = subst (λ v. same_point a v ≡ true) e (both_same a.profit a.time)

reached_accepted : (p : Problem) (k : ℕ) (l : Listed) → IsReached p l → listed_refusal p k l ≡ None
reached_accepted p k l is =
    ap (λ (o : Option PlanRefusal). elim o [
      | Some why ↦ Some (PointRefused k (Plan why))
      | None ↦ cond (same_point (point_of p l.plan) l.point) None (Some (PointRefused k WrongValue))
    ]) ((plans_are_accepted p l.plan).1 is.plan)
    ∙ ap (λ t. cond t None (Some (PointRefused k WrongValue))) (same_point_passes (point_of p l.plan) l.point is.value)

both_less : (w x y z : ℕ) → w < x → y < z → (nat_lt w x && nat_lt y z) ≡ true
both_less w x y z h k = grind (arith, nat_tests)

rise_passes : (before : Option Point) (l : Listed) (ls : List Listed) → Rise before (l ∷ ls) → rises_from before l.point ≡ true
rise_passes None l ls r = refl
rise_passes (Some a) l ls r = let up = r.0 in both_less a.profit l.point.profit a.time l.point.time up.profit up.time

rise_on : (before : Option Point) (l : Listed) (ls : List Listed) → Rise before (l ∷ ls) → Rise (Some l.point) ls
rise_on None l ls r = r
rise_on (Some a) l ls r = r.1

points_accepted : (p : Problem) (before : Option Point) (k : ℕ) (points : List Listed) → AllByRecursion (IsReached p) points →
    Rise before points → points_refusal p before k points ≡ None
points_accepted p before k [] reached rise = refl
points_accepted p before k (l ∷ ls) reached rise =
    ap (λ (o : Option CheckFail). elim o [
      | Some fail ↦ Some fail
      | None ↦ cond (rises_from before l.point) (points_refusal p (Some l.point) (k + 1) ls) (Some (NotRising k))
    ]) (reached_accepted p k l reached.0)
    ∙ ap (λ t. cond t (points_refusal p (Some l.point) (k + 1) ls) (Some (NotRising k))) (rise_passes before l ls rise)
    ∙ points_accepted p (Some l.point) (k + 1) ls reached.1 (rise_on before l ls rise)

rise_behind : (l : Listed) (ls : List Listed) → AllRise (l ∷ ls) → Rise (Some l.point) ls
rise_behind l [] r = tt
rise_behind l (m ∷ ms) r = (
  r 0 l (omega arith),
  rise_behind m ms (λ k d h. rw add-one (let rest = r (suc k) d (omega arith) in rw add-one at rest)),
)

rise_all : (points : List Listed) → AllRise points → Rise None points
rise_all [] r = tt
rise_all (l ∷ ls) r = rise_behind l ls r

module _ (p : Problem) (labels : ℕ) (c : Certificate) where
  is_for_this : c.customers ≡ calls p → c.team ≡ p.team → c.scale ≡ p.scale → is_for p c ≡ true
  is_for_this e f g =
      subst (λ n. (nat_eq c.customers n && (nat_eq c.team p.team && nat_eq c.scale p.scale)) ≡ true) e
      (subst (λ n. (nat_eq c.customers c.customers && (nat_eq c.team n && nat_eq c.scale p.scale)) ≡ true) f
      (subst (λ n. (nat_eq c.customers c.customers && (nat_eq c.team c.team && nat_eq c.scale n)) ≡ true) g
      (ap (λ t. t && (nat_eq c.team c.team && nat_eq c.scale c.scale)) (nat_eq_itself c.customers) ∙ both_same c.team c.scale)))

  pub accepted : (leaves : List (Leaf (Branch Region) Node)) → c.customers ≡ calls p → c.team ≡ p.team → c.scale ≡ p.scale →
      IsArchive p c.points → read_certificate p labels c.points c.nodes ≡ Ok leaves →
      decide p labels c ≡ Ok (record { points = c.points; boxes = boxes_left p leaves })
  accepted leaves customers team scale archive e =
      ap (λ t. cond (not t) (Err OtherInstance)
      (elim (points_refusal p None 1 c.points) [ Some fail ↦ Err fail | None ↦ decide_tree p labels c ])) (is_for_this customers team scale)
      ∙ ap (λ (o : Option CheckFail). elim o [ Some fail ↦ Err fail | None ↦ decide_tree p labels c ])
      (points_accepted p None 1 c.points archive.reached (rise_all c.points archive.rising))
      ∙ ap (λ (o : Result (List (Leaf (Branch Region) Node)) CheckFail). elim o [
        | Err fail ↦ Err fail
        | Ok leaves ↦ Ok (record { points = c.points; boxes = boxes_left p leaves })
      ]) e

-- ---- the budget

no_open : (nodes : List Node) → AllByRecursion IsGrown nodes → Contains nodes Left → ⊥
no_open nodes grown open_one = AllByRecursion-contains IsGrown nodes Left grown open_one

pub keeps_budget : (limit : Option ℕ) (nodes : List Node) → IsWithin limit (length nodes) →
    AllByRecursion IsGrown nodes ⊎ IsSpent limit (length nodes) → KeepsBudget limit nodes
keeps_budget None nodes few (inl done) = no_open nodes done
keeps_budget None nodes few (inr spent) = absurd spent
keeps_budget (Some n) nodes few (inl done) = (few, λ open_one. absurd (no_open nodes done open_one))
keeps_budget (Some n) nodes few (inr spent) = (few, λ open_one. spent)
