-- What an answer means that is the verdict, or want of memory.
use Rattle.std.proofs.Common.{◌≡◌, ℕ, ◌≤◌, ◌*◌, true, false, cond, not, List, [], length, IfOk, OnOk, refl, subst}
use Rattle.std.specs.declared.option.Option.TheVariants.{None, Some}
use Rattle.std.specs.declared.result.Result.{Result}
use Rattle.std.specs.declared.result.Result.TheVariants.{Ok, Err}
use Rattle.orienteering.specs.Instance.{Problem}
use Rattle.orienteering.specs.Frontier.{AllRise, IsFrontier, IsWholeFrontier}
use Rattle.orienteering.specs.Region.{Region, root}
use Rattle.orienteering.specs.Weight.{weight}
use Rattle.orienteering.specs.PlanCheck.{points_refusal}
use Rattle.orienteering.specs.Certificate.{Certificate, Acceptance}
use Rattle.orienteering.specs.Decide.{read_certificate, boxes_left, is_for, decide_tree, decide, AnswersOrMemory}
use Rattle.orienteering.specs.Preorder.{Leaf}
use Rattle.orienteering.specs.Decision.{Branch}
use Rattle.orienteering.specs.declared.Node.{Node}
use Rattle.orienteering.specs.declared.CheckFail.TheVariants.{OtherInstance}
use Rattle.orienteering.specs.declared.Listed.{Listed}
use Rattle.orienteering.specs.declared.CheckFail.{CheckFail}
use Rattle.orienteering.proofs.Decide.{trees_cover, accepts_frontiers}
use Rattle.orienteering.proofs.Points.{points_right, AllRise-from, whole}
use Rattle.orienteering.proofs.Weight.{accepted_are_small}
use Rattle.proof_check.specs.Verdict.{CoversPlans}

pub points_rise : (p : Problem) (points : List Listed) → points_refusal p None 1 points ≡ None → AllRise points
points_rise p points right = AllRise-from None points (points_right p None 1 points right).1

module _ (p : Problem) (limit : ℕ) (c : Certificate) where
  abbrev HasTree : Type 0
  HasTree = (leaves : List (Leaf (Branch Region) Node)) × (read_certificate p limit c.points c.nodes ≡ Ok leaves)

  whole_tree : (a : Acceptance) → decide_tree p limit c ≡ Ok a → HasTree
  whole_tree a e =
      elim (read_certificate p limit c.points c.nodes) as (λ o. read_certificate p limit c.points c.nodes ≡ o →
      ◌≡◌ {A = Result Acceptance CheckFail} (elim o [
        | Err fail ↦ Err fail
        | Ok leaves ↦ Ok (record { points = c.points; boxes = boxes_left p leaves })
      ]) (Ok a) → HasTree) [
        | Err fail ↦ λ h m. absurd (cc)
        | Ok leaves ↦ λ h m. (leaves, h)
      ] refl e

  accepted_tree : (a : Acceptance) → decide p limit c ≡ Ok a → HasTree
  accepted_tree a e =
      elim (is_for p c) as (λ b. ◌≡◌ {A = Result Acceptance CheckFail} (cond (not b) (Err OtherInstance)
      (elim (points_refusal p None 1 c.points) [ Some fail ↦ Err fail | None ↦ decide_tree p limit c ])) (Ok a) → HasTree) [
        | false ↦ λ h. absurd (cc)
        | true ↦ λ h.
            elim (points_refusal p None 1 c.points) as (λ o.
            ◌≡◌ {A = Result Acceptance CheckFail} (elim o [ Some fail ↦ Err fail | None ↦ decide_tree p limit c ]) (Ok a) → HasTree) [
              | Some fail ↦ λ m. absurd (cc)
              | None ↦ λ m. whole_tree a m
            ] h
      ] e

  pub answer_covers : (r : Result Acceptance CheckFail) → AnswersOrMemory (λ a. a) r (decide p limit c) →
      OnOk r (CoversPlans p limit c)
  answer_covers (Ok a) h =
      let read = accepted_tree a h in
      (read.0, read.1, λ plan is_plan. trees_cover p limit c.points c.nodes read.0 plan read.1 is_plan)
  answer_covers (Err e) h = tt

  pub answer_frontier : (r : Result Acceptance CheckFail) → AnswersOrMemory (λ a. a) r (decide p limit c) →
      IfOk r (λ a. IsFrontier p a.points a.boxes)
  answer_frontier (Ok a) h = accepts_frontiers p limit c a h
  answer_frontier (Err e) h = tt

  pub answer_whole : (r : Result Acceptance CheckFail) → AnswersOrMemory (λ a. a) r (decide p limit c) →
      IfOk r (λ a. a.boxes ≡ [] → IsWholeFrontier p a.points)
  answer_whole (Ok a) h = λ none. whole p a.points (subst (λ b. IsFrontier p a.points b) none (accepts_frontiers p limit c a h))
  answer_whole (Err e) h = tt

  pub answer_small : (r : Result Acceptance CheckFail) → AnswersOrMemory (λ a. a) r (decide p limit c) →
      OnOk r (length c.nodes ≤ 4 * weight (root p))
  answer_small (Ok a) h = accepted_are_small p limit c a h
  answer_small (Err e) h = tt
