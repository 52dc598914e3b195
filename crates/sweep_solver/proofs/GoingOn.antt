-- A tree that is grown from an accepted certificate goes on from it.
use Rattle.std.proofs.Common.{◌≡◌, ℕ, ◌≤◌, ◌^◌, true, false, cond, not, List, [], ◌∷◌, length, refl, sym, subst, ◌∙◌, arith}
use Rattle.std.specs.Prelude.{map}
use Rattle.std.specs.List.{AllByRecursion}
use Rattle.std.specs.declared.option.Option.{Option}
use Rattle.std.specs.declared.option.Option.TheVariants.{None, Some}
use Rattle.std.specs.declared.result.Result.{Result}
use Rattle.std.specs.declared.result.Result.TheVariants.{Ok, Err}
use Rattle.orienteering.specs.Instance.{Problem, calls}
use Rattle.orienteering.specs.Frontier.{IsCovered, IsReached}
use Rattle.orienteering.specs.PlanCheck.{points_refusal}
use Rattle.orienteering.specs.Region.{Region, root}
use Rattle.orienteering.specs.Preorder.{Leaf}
use Rattle.orienteering.specs.Decision.{Branch, node_step}
use Rattle.orienteering.specs.Decide.{boxes_left, decide, decide_tree, is_for, read_certificate, region_rules}
use Rattle.orienteering.specs.Certificate.{Acceptance, Certificate}
use Rattle.orienteering.specs.declared.CheckFail.{CheckFail}
use Rattle.orienteering.specs.declared.CheckFail.TheVariants.{OtherInstance}
use Rattle.orienteering.specs.declared.Listed.{Listed}
use Rattle.orienteering.specs.declared.Node.{Node}
use Rattle.orienteering.proofs.Decide.{accepts_frontiers}
use Rattle.growth.specs.Branches.{root_branch}
use Rattle.growth.specs.Growth.{Continues, Improves, IsArchive, IsWithin}
use Rattle.growth.proofs.Archives.{improves_same}
use Rattle.growth.proofs.Continuing.{from_checker, to_checker}
use Rattle.growth.proofs.Keeping.{no_trees}
use Rattle.growth.proofs.Reading.{after-kept}
use Rattle.growth.proofs.Steps.{keeps_accepted}
use Rattle.sweep_solver.specs.Solved.{CoversPlans, IsAccepted, UsesUp, start_plans, start_seeds}
use Rattle.sweep_solver.specs.Trees.{IsTreeWithin}
use Rattle.sweep_solver.specs.Resumed.{budget_after, IsLimitAfter, IsResumed, LeavesNoBox, LieWithin}
use Rattle.sweep_solver.proofs.Accepted.{accepted, keeps_budget}
use Rattle.sweep_solver.proofs.Boxes.{boxes_use_up}
use Rattle.sweep_solver.proofs.Kept.{boxes_within}
use Rattle.sweep_solver.proofs.Solving.{starts_covered}

-- what a certificate was read as that was accepted so
pub record IsRead (p : Problem) (labels : ℕ) (c : Certificate) (a : Acceptance) : Type 0 where
  pub leaves : List (Leaf (Branch Region) Node)
  pub read : read_certificate p labels c.points c.nodes ≡ Ok leaves
  pub is : a ≡ record { points = c.points; boxes = boxes_left p leaves }

tree_reads : (p : Problem) (labels : ℕ) (c : Certificate) (a : Acceptance) → decide_tree p labels c ≡ Ok a → IsRead p labels c a
tree_reads p labels c a e =
    elim (read_certificate p labels c.points c.nodes) as (λ o. read_certificate p labels c.points c.nodes ≡ o →
    ◌≡◌ {A = Result Acceptance CheckFail} (elim o [
      | Err fail ↦ Err fail
      | Ok leaves ↦ Ok (record { points = c.points; boxes = boxes_left p leaves })
    ]) (Ok a) → IsRead p labels c a) [
      | Err fail ↦ λ h m. absurd (cc)
      | Ok leaves ↦ λ h m.
          let is : record { points = c.points; boxes = boxes_left p leaves } ≡ a = cc in
          record { leaves = leaves; read = h; is = sym is }
    ] refl e

-- what is accepted was read to its end
pub reads : (p : Problem) (labels : ℕ) (c : Certificate) (a : Acceptance) → decide p labels c ≡ Ok a → IsRead p labels c a
reads p labels c a e =
    elim (is_for p c) as (λ b. ◌≡◌ {A = Result Acceptance CheckFail} (cond (not b) (Err OtherInstance)
    (elim (points_refusal p None 1 c.points) [ Some fail ↦ Err fail | None ↦ decide_tree p labels c ])) (Ok a) → IsRead p labels c a) [
      | false ↦ λ m. absurd (cc)
      | true ↦ λ m. elim (points_refusal p None 1 c.points) as (λ o. ◌≡◌ {A = Result Acceptance CheckFail}
          (elim o [ Some fail ↦ Err fail | None ↦ decide_tree p labels c ]) (Ok a) → IsRead p labels c a) [
            | Some fail ↦ λ h. absurd (cc)
            | None ↦ λ h. tree_reads p labels c a h
          ] m
    ] e

-- the listed plans of what is accepted reach their points
points_reached : (p : Problem) (labels : ℕ) (c : Certificate) → IsAccepted p labels c → AllByRecursion (IsReached p) c.points
points_reached p labels c (a, e) =
    subst (λ (x : Acceptance). AllByRecursion (IsReached p) x.points) (reads p labels c a e).is
    (accepts_frontiers p labels c a e).reached

plans_cover : (p : Problem) (better : List Listed) (points : List Listed) → AllByRecursion (IsReached p) points →
    CoversPlans p (map (λ l. l.plan) points) better → AllByRecursion (λ l. IsCovered l.point better) points
plans_cover p better [] reached covers = tt
plans_cover p better (l ∷ ls) reached covers = (
  subst (λ v. IsCovered v better) reached.0.value (covers.0 reached.0.plan),
  plans_cover p better ls reached.1 covers.1,
)

-- points that cover the plans of an accepted certificate improve on its points
pub improves_accepted : (p : Problem) (labels : ℕ) (c : Certificate) (plans : List (List (List ℕ))) (better : List Listed) →
    IsAccepted p labels c → plans ≡ map (λ l. l.plan) c.points → CoversPlans p plans better → Improves c.points better
improves_accepted p labels c plans better is same covers =
    record {
      covered = plans_cover p better c.points (points_reached p labels c is) (subst (λ ps. CoversPlans p ps better) same covers);
    }

-- a tree that was accepted is accepted with better points
pub read_again : (p : Problem) (labels : ℕ) (points better : List Listed) (nodes : List Node) (leaves : List (Leaf (Branch Region) Node)) →
    Improves points better → read_certificate p labels points nodes ≡ Ok leaves → read_certificate p labels better nodes ≡ Ok leaves
read_again p labels points better nodes leaves improves e =
    let rules = region_rules p labels in
    to_checker rules better (root p) nodes leaves
    (after-kept (node_step rules points) (node_step rules better) (keeps_accepted rules points better improves) []
    (root_branch (root p) ∷ []) nodes (record { found = leaves; pending = [] }) (from_checker rules points (root p) nodes leaves e))

-- nodes that are an accepted certificate's are a tree with better points
pub tree_again : (p : Problem) (labels : ℕ) (c : Certificate) (better : List Listed) (limit : Option ℕ) (nodes : List Node) →
    IsAccepted p labels c → Improves c.points better → nodes ≡ c.nodes → IsWithin limit (length c.nodes) →
    IsTreeWithin p labels better limit nodes
tree_again p labels c better limit nodes is improves same few =
    let before = reads p labels c is.0 is.1 in
    subst (λ ns. IsTreeWithin p labels better limit ns) (sym same) (record {
      leaves = before.leaves;
      accepted = read_again p labels c.points better c.nodes before.leaves improves before.read;
      few = few;
    })

-- ---- the budget

few_after : (count total : ℕ) (budget limit : Option ℕ) → IsLimitAfter count budget limit → total ≤ 2 ^ 64 → IsWithin limit total →
    IsWithin (budget_after count budget) total
few_after count total None limit is short few = tt
few_after count total (Some n) None is short few = omega (arith, is, short)
few_after count total (Some n) (Some k) is short few = omega (arith, is, few)

used_after : (count total : ℕ) (budget limit : Option ℕ) → IsLimitAfter count budget limit → UsesUp limit total →
    UsesUp (budget_after count budget) total
used_after count total None None is used = used
used_after count total None (Some k) is used = absurd (cc)
used_after count total (Some n) None is used = absurd used
used_after count total (Some n) (Some k) is used = omega (arith, is, used)

-- ---- the whole

-- the certificate of these points and nodes
abbrev pub made_of : Problem → List Listed → List Node → Certificate
made_of p points nodes = record { customers = calls p; team = p.team; scale = p.scale; points = points; nodes = nodes }

module _ (p : Problem) (labels : ℕ) (budget : Option ℕ) (seed : ℕ) (old : Certificate) where
  -- the same certificate goes on from one that leaves no box
  pub resumed_same : IsAccepted p labels old → LeavesNoBox p labels old → (c : Certificate) → c ≡ old → IsResumed p labels budget seed old c
  resumed_same is none c same = subst (IsResumed p labels budget seed old) (sym same) (record {
    accepted = is;
    same = λ again. refl;
    tree = ([], sym (no_trees old.nodes));
    kept = (improves_same old.points).covered;
    starts = λ some. absurd (some none);
    within = λ a b e f. subst (λ boxes. LieWithin a.boxes boxes) (sym (none b f)) tt;
    few = few_same (length old.nodes) budget;
    boxes = λ a e some. absurd (some (none a e));
  })
    where
      few_same : (count : ℕ) (more : Option ℕ) → IsWithin (budget_after count more) count
      few_same count None = tt
      few_same count (Some n) = omega arith

  module _ (limit : Option ℕ) (points : List Listed) (nodes : List Node) where
    -- what the grown nodes are, whatever leaves the old ones were read with
    abbrev Grown : Type 0
    Grown = (leaves : List (Leaf (Branch Region) Node)) → read_certificate p labels old.points old.nodes ≡ Ok leaves →
        Continues (region_rules p labels) points (root p) limit old.nodes leaves nodes

    made_accepted : IsArchive p points → (leaves : List (Leaf (Branch Region) Node)) → read_certificate p labels points nodes ≡ Ok leaves →
        decide p labels (made_of p points nodes) ≡ Ok (record { points = points; boxes = boxes_left p leaves })
    made_accepted archive leaves read = accepted p labels (made_of p points nodes) leaves refl refl refl archive read

    within_old : IsArchive p points → Grown → (a b : Acceptance) → decide p labels old ≡ Ok a →
        decide p labels (made_of p points nodes) ≡ Ok b → LieWithin a.boxes b.boxes
    within_old archive grown a b e f =
        let before = reads p labels old a e in
        let g = grown before.leaves before.read in
        let is = made_accepted archive g.leaves g.accepted in
        let same : b ≡ record { points = points; boxes = boxes_left p g.leaves } = same_ok b _ (sym f ∙ is) in
        subst (λ (x : Acceptance). LieWithin x.boxes b.boxes) (sym before.is)
        (subst (λ (x : Acceptance). LieWithin (boxes_left p before.leaves) x.boxes) (sym same)
        (boxes_within p labels before.leaves g.leaves g.within))
      where
        same_ok : (x y : Acceptance) → ◌≡◌ {A = Result Acceptance CheckFail} (Ok x) (Ok y) → x ≡ y
        same_ok x y m = cc

    -- what is grown from a certificate that leaves a box goes on from it
    pub resumed : IsAccepted p labels old → (LeavesNoBox p labels old → ⊥) → IsLimitAfter (length old.nodes) budget limit →
        length nodes ≤ 2 ^ 64 → IsArchive p points → Improves old.points points → CoversPlans p (start_plans p seed) points → Grown →
        (c : Certificate) → c ≡ made_of p points nodes → IsResumed p labels budget seed old c
    resumed is some after short archive improves covers grown c same =
        let before = reads p labels old is.0 is.1 in
        let g = grown before.leaves before.read in
        let keeps = keeps_budget limit nodes g.few g.closed in
        subst (IsResumed p labels budget seed old) (sym same) (record {
          accepted = (record { points = points; boxes = boxes_left p g.leaves }, made_accepted archive g.leaves g.accepted);
          same = λ none. absurd (some none);
          tree = g.kept;
          kept = improves.covered;
          starts = λ left. starts_covered p points (start_seeds seed) covers;
          within = within_old archive grown;
          few = few_after (length old.nodes) (length nodes) budget limit after short g.few;
          boxes = λ a e left.
              used_after (length old.nodes) (length nodes) budget limit after (boxes_use_up p labels limit (made_of p points nodes) keeps a e left);
        })
