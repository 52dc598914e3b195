-- A box is left only where a node is open.
use Rattle.std.proofs.Common.{◌≡◌, ℕ, suc, ◌+◌, ◌≤◌, ◌<◌, true, false, cond, not, List, [], ◌∷◌, ◌++◌, length, Option, Some, None, refl, sym, ap, ◌∙◌, subst, arith}
use Rattle.std.specs.List.{AllByRecursion, Contains, fold}
use Rattle.std.specs.declared.result.Result.{Result}
use Rattle.std.specs.declared.result.Result.TheVariants.{Ok, Err}
use Rattle.std.proofs.Math.Nat.{lt_of_not-le}
use Rattle.orienteering.specs.Instance.{Problem}
use Rattle.orienteering.specs.PlanCheck.{points_refusal}
use Rattle.orienteering.specs.Region.{Region, root}
use Rattle.orienteering.specs.Preorder.{Leaf, read_tree}
use Rattle.orienteering.specs.Decision.{Branch, node_step}
use Rattle.orienteering.specs.Decide.{decide, decide_tree, boxes_left, is_for, keep_open, read_certificate, region_rules}
use Rattle.orienteering.specs.Certificate.{Certificate, Acceptance}
use Rattle.orienteering.specs.declared.CheckFail.{CheckFail}
use Rattle.orienteering.specs.declared.CheckFail.TheVariants.{OtherInstance, Shape}
use Rattle.orienteering.specs.declared.Node.{Node}
use Rattle.orienteering.specs.declared.Node.TheVariants.{Profit, Time, Count, Arc, Cut, Dominated, Cutoff, Stuck, Left}
use Rattle.orienteering.specs.declared.Step.{Step}
use Rattle.orienteering.specs.declared.Step.TheVariants.{Refused, Ends, Child, Children}
use Rattle.orienteering.proofs.Lists.{AllByRecursion-push, Contains-head, Contains-tail}
use Rattle.sweep_solver.specs.Solved.{HasOpenNode, KeepsBudget, UsesUp}

abbrev IsClosed : Node → Type 0
IsClosed n = n ≡ Left → ⊥

module _ {P E : Type 0} (step : ℕ → P → Node → Step P E) (shape : ℕ → E) where
  -- what is read of closed nodes are closed leaves
  leaves_closed : (found : List (Leaf P Node)) (waiting : List P) (i : ℕ) (nodes : List Node) (leaves : List (Leaf P Node)) →
      AllByRecursion (λ l. IsClosed l.node) found → AllByRecursion IsClosed nodes → read_tree step shape found waiting i nodes ≡ Ok leaves →
      AllByRecursion (λ l. IsClosed l.node) leaves
  leaves_closed found [] i [] leaves closed all e =
      let same : found ≡ leaves = cc in
      subst (AllByRecursion (λ (l : Leaf P Node). IsClosed l.node)) same closed
  leaves_closed found [] i (n ∷ ns) leaves closed all e = absurd (cc)
  leaves_closed found (p ∷ ps) i [] leaves closed all e = absurd (cc)
  leaves_closed found (p ∷ ps) i (n ∷ ns) leaves closed all e =
      elim (step i p n) as (λ s. ◌≡◌ {A = Result (List (Leaf P Node)) E} (elim s [
        | Refused f ↦ Err f
        | Ends ↦ read_tree step shape (found ++ record { branch = p; node = n } ∷ []) ps (i + 1) ns
        | Child q ↦ read_tree step shape found (q ∷ ps) (i + 1) ns
        | Children q r ↦ read_tree step shape found (q ∷ r ∷ ps) (i + 1) ns
      ]) (Ok leaves) → AllByRecursion (λ (l : Leaf P Node). IsClosed l.node) leaves) [
        | Refused f ↦ λ h. absurd (cc)
        | Ends ↦ λ h. leaves_closed (found ++ record { branch = p; node = n } ∷ []) ps (i + 1) ns leaves
            (AllByRecursion-push (λ (l : Leaf P Node). IsClosed l.node) found (record { branch = p; node = n }) closed all.0) all.1 h
        | Child q ↦ λ h. leaves_closed found (q ∷ ps) (i + 1) ns leaves closed all.1 h
        | Children q r ↦ λ h. leaves_closed found (q ∷ r ∷ ps) (i + 1) ns leaves closed all.1 h
      ] e

module _ (p : Problem) where
  keeps_none : (kept : _) (b : Branch Region) (n : Node) → IsClosed n → keep_open p kept (record { branch = b; node = n }) ≡ kept
  keeps_none kept b (Profit v) closed = refl
  keeps_none kept b (Time v) closed = refl
  keeps_none kept b (Count v) closed = refl
  keeps_none kept b (Arc i j) closed = refl
  keeps_none kept b (Cut price critical) closed = refl
  keeps_none kept b Dominated closed = refl
  keeps_none kept b (Cutoff k) closed = refl
  keeps_none kept b (Stuck reason) closed = refl
  keeps_none kept b Left closed = absurd (closed refl)

  no_box_kept : (kept : _) (leaves : List (Leaf (Branch Region) Node)) → AllByRecursion (λ l. IsClosed l.node) leaves →
      fold (keep_open p) kept leaves ≡ kept
  no_box_kept kept [] closed = refl
  no_box_kept kept (l ∷ ls) closed =
      ap (λ boxes. fold (keep_open p) boxes ls) (keeps_none kept l.branch l.node closed.0) ∙ no_box_kept kept ls closed.1

  boxes_of_tree : (limit : ℕ) (c : Certificate) (a : Acceptance) → AllByRecursion IsClosed c.nodes → decide_tree p limit c ≡ Ok a → a.boxes ≡ []
  boxes_of_tree limit c a closed e =
      elim (read_certificate p limit c.points c.nodes) as (λ o. read_certificate p limit c.points c.nodes ≡ o →
      ◌≡◌ {A = Result Acceptance CheckFail} (elim o [
        | Err fail ↦ Err fail
        | Ok leaves ↦ Ok (record { points = c.points; boxes = boxes_left p leaves })
      ]) (Ok a) → a.boxes ≡ []) [
        | Err fail ↦ λ h m. absurd (cc)
        | Ok leaves ↦ λ h m.
            let is : record { points = c.points; boxes = boxes_left p leaves } ≡ a = cc in
            ap (λ (x : Acceptance). x.boxes) (sym is) ∙ no_box_kept [] leaves (leaves_closed (node_step (region_rules p limit) c.points) Shape [] (record { region = root p; cuts = []; under_cut = false } ∷ []) 1 c.nodes leaves tt closed h)
      ] refl e

  -- without an open node the verdict leaves no box
  no_box : (limit : ℕ) (c : Certificate) (a : Acceptance) → AllByRecursion IsClosed c.nodes → decide p limit c ≡ Ok a → a.boxes ≡ []
  no_box limit c a closed e =
      elim (is_for p c) as (λ b. ◌≡◌ {A = Result Acceptance CheckFail} (cond (not b) (Err OtherInstance)
      (elim (points_refusal p None 1 c.points) [ Some fail ↦ Err fail | None ↦ decide_tree p limit c ])) (Ok a) → a.boxes ≡ []) [
        | false ↦ λ m. absurd (cc)
        | true ↦ λ m. elim (points_refusal p None 1 c.points) as (λ o. ◌≡◌ {A = Result Acceptance CheckFail}
            (elim o [ Some fail ↦ Err fail | None ↦ decide_tree p limit c ]) (Ok a) → a.boxes ≡ []) [
              | Some fail ↦ λ h. absurd (cc)
              | None ↦ λ h. boxes_of_tree limit c a closed h
            ] m
      ] e

  closed_from : (nodes : List Node) → (HasOpenNode nodes → ⊥) → AllByRecursion IsClosed nodes
  closed_from [] none = tt
  closed_from (n ∷ ns) none =
      (λ is. none (subst (λ m. Contains (m ∷ ns) Left) (sym is) (Contains-head Left ns)), closed_from ns (λ c. none (Contains-tail Left n ns c)))

  -- a box is left only where the budget is used up
  pub boxes_use_up : (limit : ℕ) (budget : Option ℕ) (c : Certificate) → KeepsBudget budget c.nodes → (a : Acceptance) →
      decide p limit c ≡ Ok a → (a.boxes ≡ [] → ⊥) → UsesUp budget (length c.nodes)
  boxes_use_up limit None c keeps a e some = some (no_box limit c a (closed_from c.nodes keeps) e)
  boxes_use_up limit (Some budget) c keeps a e some =
      reached budget (length c.nodes) (λ less. some (no_box limit c a (closed_from c.nodes (λ is_open. not_less budget (length c.nodes) less (keeps.1 is_open))) e))
    where
      reached : (m n : ℕ) → (n < m → ⊥) → m ≤ n
      reached m n h = let more : m < suc n = lt_of_not-le {n = suc n} {m = m} (λ k. h (omega arith)) in omega arith

      not_less : (m n : ℕ) → n < m → m ≤ n → ⊥
      not_less m n h k = grind arith
