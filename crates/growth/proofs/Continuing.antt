-- The reading without numbers is the checker's.
use Rattle.std.proofs.Common.{◌≡◌, ℕ, ◌⊎◌, inl, inr, List, [], ◌∷◌, length, reverse, sym, ap, subst, ◌∙◌, arith}
use Rattle.std.proofs.lemmas.List.{reverse-reverse}
use Rattle.std.specs.declared.option.Option.{Option}
use Rattle.std.specs.List.{AllByRecursion}
use Rattle.std.specs.declared.option.Option.TheVariants.{None, Some}
use Rattle.std.specs.Result.{IfOk}
use Rattle.std.specs.declared.result.Result.{Result}
use Rattle.std.specs.declared.result.Result.TheVariants.{Ok, Err}
use Rattle.orienteering.specs.Preorder.{Leaf}
use Rattle.orienteering.specs.declared.Listed.{Listed}
use Rattle.orienteering.specs.RegionRules.{RegionRules}
use Rattle.orienteering.specs.Decision.{node_step, read_nodes, Branch}
use Rattle.orienteering.specs.declared.Node.{Node}
use Rattle.orienteering.specs.declared.CheckFail.TheVariants.{Shape}
use Rattle.growth.specs.Branches.{root_branch}
use Rattle.growth.specs.Reading.{after, IsTree}
use Rattle.growth.specs.declared.waiting.Waiting.{Waiting}
use Rattle.growth.specs.Growth.{Regrows, Completes, Continues, Await, AreAwaited, HasRoom, IsSpent, IsFromOpen, open_branches}
use Rattle.growth.proofs.Archives.{improves_same}
use Rattle.growth.proofs.Reading.{from_read, to_read}
use Rattle.growth.proofs.Keeping.{KeepsNodes}
use Rattle.orienteering.proofs.Lists.{AllByRecursion-contains, AllByRecursion-weaker}
use Rattle.growth.proofs.Shrinking.{shrinks_then}
use Rattle.growth.proofs.Steps.{keeps_accepted}

still_room : (limit : Option ℕ) (count : ℕ) (P : Type 0) → HasRoom limit count → P ⊎ IsSpent limit count → P
still_room limit count P room (inl p) = p
still_room None count P room (inr spent) = absurd spent
still_room (Some n) count P room (inr spent) = absurd (omega (arith, room, spent))

module _ {R : Type 0} (rules : RegionRules R) (points : List Listed) (root : R) where
  pub from_checker : (nodes : List Node) (leaves : List (Leaf (Branch R) Node)) → read_nodes rules points root nodes ≡ Ok leaves →
      IsTree (node_step rules points) (root_branch root) nodes leaves
  from_checker nodes leaves e =
      from_read (node_step rules points) Shape (keeps_accepted rules points points (improves_same points)) leaves []
      (root_branch root ∷ []) 1 nodes e

  pub to_checker : (nodes : List Node) (leaves : List (Leaf (Branch R) Node)) →
      IsTree (node_step rules points) (root_branch root) nodes leaves → read_nodes rules points root nodes ≡ Ok leaves
  to_checker nodes leaves e =
      to_read (node_step rules points) Shape (keeps_accepted rules points points (improves_same points)) leaves []
      (root_branch root ∷ []) 1 nodes e

  -- the tree of nodes that are handed in with the root last
  pub from_behind : (nodes behind : List Node) (branch : Branch R) (leaves : List (Leaf (Branch R) Node)) →
      behind ≡ reverse nodes → branch ≡ root_branch root → read_nodes rules points root nodes ≡ Ok leaves →
      IsTree (node_step rules points) branch (reverse behind) leaves
  from_behind nodes behind branch leaves back at e =
      ap (λ ns. after (node_step rules points) [] (branch ∷ []) ns) (ap reverse back ∙ reverse-reverse nodes)
      ∙ ap (λ p. after (node_step rules points) [] (p ∷ []) nodes) at
      ∙ from_checker nodes leaves e

  -- what lies in what was left of the tree between lies in what was left of the old one
  from_old : (old between : List (Leaf (Branch R) Node)) (l : Leaf (Branch R) Node) → AllByRecursion (IsFromOpen rules old) between →
      IsFromOpen rules between l → IsFromOpen rules old l
  from_old old between l all f e =
      let o = f e in
      let q = AllByRecursion-contains (IsFromOpen rules old) between o.0 all o.1 o.2 in
      (q.0, q.1, q.2, shrinks_then rules q.0.branch.region o.0.branch.region l.branch.region q.3 o.3)

  pub continues : (limit : Option ℕ) (branch : Branch R) (nodes : List Node) (old between : List (Leaf (Branch R) Node))
      (grown : List Node) → branch ≡ root_branch root → KeepsNodes nodes grown → AllByRecursion (IsFromOpen rules old) between →
      Completes rules points branch limit between grown → Continues rules points root limit nodes old grown
  continues limit branch nodes old between grown at kept within r =
      record {
        kept = kept;
        leaves = r.leaves;
        accepted = to_checker grown r.leaves
            (sym (ap (λ p. after (node_step rules points) [] (p ∷ []) grown) at) ∙ r.accepted);
        few = r.few;
        closed = r.closed;
        within = AllByRecursion-weaker (IsFromOpen rules between) (IsFromOpen rules old)
            (λ l f. from_old old between l within f) r.leaves r.within;
      }

  -- where the budget is spent, the rest stays open
  pub stays_open : (limit : Option ℕ) (branch : Branch R) (nodes : List Node) (old : List (Leaf (Branch R) Node)) (grown : List Node)
      (waiting : List (Waiting R)) → branch ≡ root_branch root → KeepsNodes nodes grown →
      Regrows rules points branch limit old grown waiting → IsSpent limit (length grown) →
      Continues rules points root limit nodes old grown
  stays_open limit branch nodes old grown waiting at kept r spent =
      record {
        kept = kept;
        leaves = r.leaves;
        accepted = to_checker grown r.leaves
            (sym (ap (λ p. after (node_step rules points) [] (p ∷ []) grown) at) ∙ r.accepted);
        few = r.few;
        closed = inr spent;
        within = r.within;
      }

  -- where there is room, the branches of the open leaves wait
  pub awaited : (Proper : R → Type 0) (limit : Option ℕ) (branch : Branch R) (old : List (Leaf (Branch R) Node)) (grown : List Node)
      (waiting : List (Waiting R)) → branch ≡ root_branch root → Proper root → HasRoom limit (length grown) →
      (r : Regrows rules points branch limit old grown waiting) → AreAwaited rules Proper points branch grown r.leaves waiting
  awaited Proper limit branch old grown waiting at proper room r =
      record {
        proper = subst (λ q. Proper q) (sym (ap (λ b. b.region) at)) proper;
        accepted = r.accepted;
        await = still_room limit (length grown) (Await 0 waiting (open_branches r.leaves)) room r.closed;
      }

pub if_ok : {X E : Type 0} (r : Result X E) (P Q : X → Type 0) → ((x : X) → P x → Q x) → IfOk r P → IfOk r Q
if_ok (Ok x) P Q f h = f x h
if_ok (Err e) P Q f h = tt

pub if_both : {X E : Type 0} (r : Result X E) (P Q S : X → Type 0) → ((x : X) → P x → Q x → S x) → IfOk r P → IfOk r Q → IfOk r S
if_both (Ok x) P Q S f p q = f x p q
if_both (Err e) P Q S f p q = tt
