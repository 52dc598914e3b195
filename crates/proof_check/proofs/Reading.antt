-- A walk over the nodes, with the branches that wait in a list, reads the tree of the definition.
use Rattle.std.proofs.Common.{◌≡◌, ℕ, suc, ◌+◌, ◌≤◌, ◌<◌, List, [], ◌∷◌, ◌++◌, length, drop, get_or, Bool, false, true, true≢false, refl, ap, sym, subst, ◌∙◌, add-one}
use Rattle.std.specs.Prelude.{IsTrue, ◌↔◌}
use Rattle.std.specs.List.{AllByRecursion}
use Rattle.std.proofs.Math.Seq.{drop-cons}
use Rattle.std.proofs.lemmas.List.{drop_all}
use Rattle.std.proofs.lemmas.List.Sums.{fold_push}
use Rattle.std.specs.declared.result.Result.{Result}
use Rattle.std.specs.declared.result.Result.TheVariants.{Ok, Err}
use Rattle.orienteering.specs.Instance.{Problem}
use Rattle.orienteering.specs.Region.{Region, root, IsProper}
use Rattle.orienteering.specs.Preorder.{Leaf, read_tree}
use Rattle.orienteering.specs.Decision.{Branch, part_of, node_step}
use Rattle.orienteering.specs.Decide.{region_rules, keep_open, boxes_left, AnswersOrMemory}
use Rattle.orienteering.specs.declared.Step.{Step}
use Rattle.orienteering.specs.declared.Step.TheVariants.{Refused, Ends, Child, Children}
use Rattle.orienteering.specs.declared.Box2.{Box2}
use Rattle.orienteering.specs.declared.Listed.{Listed}
use Rattle.orienteering.specs.declared.Node.{Node}
use Rattle.orienteering.specs.declared.CheckFail.{CheckFail}
use Rattle.orienteering.specs.declared.CheckFail.TheVariants.{OtherInstance, PointRefused, NotRising, NodeRefused, TooManyLabels, Shape, Memory}
use Rattle.proof_check.specs.Waiting.{branch}
use Rattle.proof_check.specs.Judged.{Gives, HasProperParts, branches_behind, boxes_behind}
use Rattle.proof_check.specs.Verdict.{decide_boxes}
use Rattle.proof_check.specs.declared.judge.Judged.{Judged}
use Rattle.proof_check.specs.declared.judge.Judged.TheVariants as judged

abbrev pub Leaves : Type 0
Leaves = List (Leaf (Branch Region) Node)

abbrev pub AreProper : Problem → List (Branch Region) → Type 0
AreProper p branches = AllByRecursion (λ b. IsProper p b.region) branches

module _ (p : Problem) (limit : ℕ) (points : List Listed) (nodes : List Node) where
  abbrev step : ℕ → Branch Region → Node → Step (Branch Region) CheckFail
  step = node_step (region_rules p limit) points

  -- the rest of the reading, before the node at i
  abbrev read_from : Leaves → List (Branch Region) → ℕ → List Node → Result Leaves CheckFail
  read_from found pending i rest = read_tree step Shape found pending (i + 1) rest

  abbrev whole : Result Leaves CheckFail
  whole = read_from [] (branch (root p) [] false ∷ []) 0 nodes

  -- before the node at i the whole tree reads as what is left does, and the boxes are those of the leaves so far
  pub record Walked (boxes : List Box2) (pending : List (Branch Region)) (i : ℕ) : Type 0 where
    pub found : Leaves
    pub kept : boxes ≡ boxes_left p found
    pub same : whole ≡ read_from found pending i (drop i nodes)
    pub proper : AreProper p pending

  pub starts : IsProper p (root p) → Walked [] (branch (root p) [] false ∷ []) 0
  starts is = record { found = []; kept = refl; same = refl; proper = (is, tt) }

  -- what the node at i makes of the reading, by its step
  abbrev read_on : Leaves → List (Branch Region) → ℕ → Branch Region → Node → List Node → Step (Branch Region) CheckFail → Result Leaves CheckFail
  read_on found pending i b n rest s =
      elim s [
        | Refused e ↦ Err e
        | Ends ↦ read_from (found ++ record { branch = b; node = n } ∷ []) pending (i + 1) rest
        | Child c ↦ read_from found (c ∷ pending) (i + 1) rest
        | Children c d ↦ read_from found (c ∷ d ∷ pending) (i + 1) rest
      ]

  abbrev verdict_of : Result Leaves CheckFail → Result (List Box2) CheckFail
  verdict_of read = elim read [ Err fail ↦ Err fail | Ok leaves ↦ Ok (boxes_left p leaves) ]

  module _ (boxes : List Box2) (pending : List (Branch Region)) (i : ℕ) (w : Walked boxes pending i) where
    stepped : (b : Branch Region) (rest : List (Branch Region)) (n : Node) → pending ≡ b ∷ rest → i < length nodes →
        get_or nodes i n ≡ n → (s : Step (Branch Region) CheckFail) → step (i + 1) b n ≡ s →
        whole ≡ read_on w.found rest i b n (drop (i + 1) nodes) s
    stepped b rest n split below here s e =
        let cons = drop-cons nodes i n below in
        let nodes_left : drop i nodes ≡ n ∷ drop (i + 1) nodes =
        cons ∙ ap (λ m. m ∷ drop (suc i) nodes) here ∙ ap (λ (k : ℕ). n ∷ drop k nodes) (sym (add-one i)) in
        w.same
        ∙ ap (λ ps. read_from w.found ps i (drop i nodes)) split
        ∙ ap (λ ns. read_from w.found (b ∷ rest) i ns) nodes_left
        ∙ ap (λ t. read_on w.found rest i b n (drop (i + 1) nodes) t) e

    pub refuses : (b : Branch Region) (rest : List (Branch Region)) (n : Node) → pending ≡ b ∷ rest → i < length nodes →
        get_or nodes i n ≡ n → (fail : CheckFail) → step (i + 1) b n ≡ Refused fail →
        decide_boxes p limit points nodes ≡ Err fail
    refuses b rest n split below here fail e = ap verdict_of (stepped b rest n split below here (Refused fail) e)

    -- the refusal of a node is the answer, or want of memory is
    pub answers : (b : Branch Region) (rest : List (Branch Region)) (n : Node) → pending ≡ b ∷ rest → i < length nodes →
        get_or nodes i n ≡ n → (fail : CheckFail) → Gives b (Err fail) (step (i + 1) b n) → {X : Type 0} (view : X → List Box2) →
        AnswersOrMemory view (Err fail) (decide_boxes p limit points nodes)
    answers b rest n split below here OtherInstance e view = refuses b rest n split below here OtherInstance e
    answers b rest n split below here (PointRefused k why) e view = refuses b rest n split below here (PointRefused k why) e
    answers b rest n split below here (NotRising k) e view = refuses b rest n split below here (NotRising k) e
    answers b rest n split below here (NodeRefused index cause) e view = refuses b rest n split below here (NodeRefused index cause) e
    answers b rest n split below here (TooManyLabels index) e view = refuses b rest n split below here (TooManyLabels index) e
    answers b rest n split below here (Shape index) e view = refuses b rest n split below here (Shape index) e
    answers b rest n split below here Memory e view = tt

    behind : (b : Branch Region) (rest : List (Branch Region)) (n : Node) → pending ≡ b ∷ rest → i < length nodes →
        get_or nodes i n ≡ n → AreProper p (b ∷ rest) → (j : Judged) → HasProperParts p j → Gives b (Ok j) (step (i + 1) b n) →
        Walked (boxes_behind p b n j boxes) (branches_behind b j rest) (i + 1)
    behind b rest n split below here proper judged.Leaf parts e =
        let l : Leaf (Branch Region) Node = record { branch = b; node = n } in
        record {
          found = w.found ++ l ∷ [];
          kept = ap (λ k. keep_open p k l) w.kept ∙ sym (fold_push (keep_open p) [] w.found l);
          same = stepped b rest n split below here Ends e;
          proper = proper.1;
        }
    behind b rest n split below here proper (judged.Below cut) parts e =
        record {
          found = w.found;
          kept = w.kept;
          same = stepped b rest n split below here (Child (branch b.region (b.cuts ++ cut ∷ []) true)) e;
          proper = proper;
        }
    behind b rest n split below here proper (judged.Parts first second) parts e =
        record {
          found = w.found;
          kept = w.kept;
          same = stepped b rest n split below here (Children (part_of b first) (part_of b second)) e;
          proper = (parts.0, (parts.1, proper.1));
        }

    first_proper : (b : Branch Region) (rest : List (Branch Region)) → pending ≡ b ∷ rest → AreProper p (b ∷ rest)
    first_proper b rest split = subst (AreProper p) split w.proper

    pub proper_branch : (b : Branch Region) (rest : List (Branch Region)) → pending ≡ b ∷ rest → IsProper p b.region
    proper_branch b rest split = (first_proper b rest split).0

    pub goes_on : (b : Branch Region) (rest : List (Branch Region)) (n : Node) → pending ≡ b ∷ rest → i < length nodes →
        get_or nodes i n ≡ n → (j : Judged) → HasProperParts p j → Gives b (Ok j) (step (i + 1) b n) →
        Walked (boxes_behind p b n j boxes) (branches_behind b j rest) (i + 1)
    goes_on b rest n split below here = behind b rest n split below here (first_proper b rest split)

    -- a node behind the whole tree
    pub too_many : pending ≡ [] → (n : Node) → i < length nodes → decide_boxes p limit points nodes ≡ Err (Shape (i + 1))
    too_many none n below =
        ap verdict_of
        (w.same
        ∙ ap (λ ps. read_from w.found ps i (drop i nodes)) none
        ∙ ap (λ ns. read_from w.found [] i ns) (drop-cons nodes i n below))

    -- the nodes end with the tree
    pub done : pending ≡ [] → length nodes ≤ i → decide_boxes p limit points nodes ≡ Ok boxes
    done none end =
        ap verdict_of
        (w.same
        ∙ ap (λ ps. read_from w.found ps i (drop i nodes)) none
        ∙ ap (λ ns. read_from w.found [] i ns) (drop_all i nodes end))
        ∙ ap (λ (k : List Box2). Ok k) (sym w.kept)

    -- the nodes end before the tree
    too_few : (b : Branch Region) (rest : List (Branch Region)) → pending ≡ b ∷ rest → length nodes ≤ i →
        decide_boxes p limit points nodes ≡ Err (Shape (i + 1))
    too_few b rest split end =
        ap verdict_of
        (w.same
        ∙ ap (λ ps. read_from w.found ps i (drop i nodes)) split
        ∙ ap (λ ns. read_from w.found (b ∷ rest) i ns) (drop_all i nodes end))

    pub unfinished : (empty : Bool) → (IsTrue empty ↔ (pending ≡ [])) → empty ≡ false → length nodes ≤ i →
        decide_boxes p limit points nodes ≡ Err (Shape (i + 1))
    unfinished empty says none end =
        let split = some_branch pending (λ e. true≢false (sym (says.1 e) ∙ none)) in
        too_few split.0 split.1 split.2 end
      where
        some_branch : (branches : List (Branch Region)) → (branches ≡ [] → ⊥) →
            (b : Branch Region) × (rest : List (Branch Region)) × (branches ≡ b ∷ rest)
        some_branch [] h = absurd (h refl)
        some_branch (b ∷ rest) h = (b, rest, refl)
