-- The old tree on its way into the new one: the nodes that are written, and the old nodes behind.
use Rattle.std.proofs.Common.{◌≡◌, ℕ, true, ◌+◌, ◌≤◌, ◌⊎◌, inl, inr, List, [], ◌∷◌, ◌++◌, length, reverse, refl, ap, subst, sym, ◌∙◌, arith, length-append}
use Rattle.std.specs.List.{AllByRecursion, Contains}
use Rattle.std.proofs.lemmas.List.{append-nil, reverse-append}
use Rattle.std.specs.declared.option.Option.{Option}
use Rattle.std.specs.declared.option.Option.TheVariants.{None, Some}
use Rattle.orienteering.specs.Preorder.{Leaf}
use Rattle.orienteering.specs.declared.Listed.{Listed}
use Rattle.orienteering.specs.declared.Step.{Step}
use Rattle.orienteering.specs.declared.Step.TheVariants.{Refused, Ends, Child, Children}
use Rattle.orienteering.proofs.Lists.{AllByRecursion-push, AllByRecursion-append, AllByRecursion-weaker, Contains-head, Contains-tail}
use Rattle.orienteering.specs.RegionRules.{RegionRules}
use Rattle.orienteering.specs.Decision.{node_step, Branch}
use Rattle.orienteering.specs.Size.{IsWeight}
use Rattle.growth.proofs.Size.{size, step_fits}
use Rattle.orienteering.specs.declared.Node.{Node}
use Rattle.orienteering.specs.declared.Node.TheVariants.{Profit, Time, Count, Arc, Cut, Dominated, Cutoff, Stuck, Left}
use Rattle.orienteering.specs.declared.Price.{Price}
use Rattle.orienteering.specs.declared.CheckFail.{CheckFail}
use Rattle.growth.specs.Reading.{Reading, after, IsTree}
use Rattle.growth.specs.Growth.{Improves, IsRefused, IsGrown, IsPlain, PutsOff, GrowsTree, IsWithin, IsSpent, Copies, Regrows, Await, SplitsShrink, IsFromOpen, children_of, open_branches}
use Rattle.growth.proofs.Reading.{goes_on, after-append, after-framed, after-kept, adds}
use Rattle.growth.specs.declared.waiting.Waiting.{Waiting}
use Rattle.growth.proofs.Steps.{keeps_accepted, children_smaller}
use Rattle.growth.proofs.Awaiting.{hands_on, with_leaf, not_open, open_branches-append, opens_none, puts_off_none, puts_off_then}
use Rattle.growth.proofs.Growing.{but_last}
use Rattle.growth.proofs.Shrinking.{IsBelow, leaves_shrink}

pub record Regrowing {R : Type 0} (rules : RegionRules R) (Proper : R → Type 0) (points : List Listed) (root : Branch R)
    (limit : Option ℕ) (old : List (Leaf (Branch R) Node)) (nodes behind : List Node) (stack : List (Branch R))
    (waiting : List (Waiting R)) : Type 0 where
  pub passed : List (Leaf (Branch R) Node)
  pub found : List (Leaf (Branch R) Node)
  pub rest : after (node_step rules points) passed (reverse stack) (reverse behind)
      ≡ Some (record { found = old; pending = [] })
  pub read : after (node_step rules points) [] (root ∷ []) nodes ≡ Some (record { found = found; pending = reverse stack })
  pub proper : AllByRecursion (λ p. Proper p.region) stack
  pub few : IsWithin limit (length nodes + length behind)
  pub closed : PutsOff true (open_branches found) [] waiting ⊎ IsSpent limit (length nodes + length behind)
  pub within : AllByRecursion (IsFromOpen rules old) found

not_refused : {P N E : Type 0} (step : ℕ → P → N → Step P E) (found : List (Leaf P N)) (p : P) (ps : List P) (n : N)
    (ns : List N) (r : Reading P N) (s : Step P E) → goes_on step found p ps n ns s ≡ Some r → IsRefused s → ⊥
not_refused step found p ps n ns r (Refused e) h w = cc
not_refused step found p ps n ns r Ends h w = w
not_refused step found p ps n ns r (Child q) h w = w
not_refused step found p ps n ns r (Children q t) h w = w

with_leaf_all : {P N E : Type 0} (Q : Leaf P N → Type 0) (found : List (Leaf P N)) (p : P) (n : N) (s : Step P E) →
    AllByRecursion Q found → Q (record { branch = p; node = n }) → AllByRecursion Q (with_leaf found p n s)
with_leaf_all Q found p n (Refused e) a q = a
with_leaf_all Q found p n Ends a q = AllByRecursion-push Q found (record { branch = p; node = n }) a q
with_leaf_all Q found p n (Child c) a q = a
with_leaf_all Q found p n (Children c d) a q = a

spent_more : (limit : Option ℕ) (a b : ℕ) → IsSpent limit a → a ≤ b → IsSpent limit b
spent_more None a b s le = s
spent_more (Some n) a b s le = omega (arith, s)

pub some_node : {P N E : Type 0} (step : ℕ → P → N → Step P E) (p : P) (nodes : List N) (leaves : List (Leaf P N)) →
    IsTree step p nodes leaves → 1 ≤ length nodes
some_node {P} {N} step p [] leaves e =
    let none : p ∷ [] ≡ [] = ap (λ (o : Option (Reading P N)). elim o [ None ↦ [] | Some r ↦ r.pending ]) e in
    absurd (cc)
some_node step p (n ∷ ns) leaves e = omega arith

contains_middle : {X : Type 0} (front : List X) (x : X) (more : List X) → Contains ((front ++ x ∷ []) ++ more) x
contains_middle [] x more = Contains-head x more
contains_middle (y ∷ ys) x more = Contains-tail x y ((ys ++ x ∷ []) ++ more) (contains_middle ys x more)

-- a node that isn't open is no open leaf
grown_from : {R : Type 0} (rules : RegionRules R) (old : List (Leaf (Branch R) Node)) (p : Branch R) (n : Node) → IsGrown n →
    IsFromOpen rules old (record { branch = p; node = n })
grown_from rules old p n g e = absurd (subst (λ m. IsGrown m) e g)

module _ {R : Type 0} (rules : RegionRules R) (Proper : R → Type 0) (weight : R → ℕ) (weighs : IsWeight rules Proper weight)
    (shrinks : SplitsShrink rules Proper) (root : Branch R) (limit : Option ℕ) (old : List (Leaf (Branch R) Node)) where
  abbrev At : List Listed → List Node → List Node → List (Branch R) → List (Waiting R) → Type 0
  At points nodes behind stack waiting = Regrowing rules Proper points root limit old nodes behind stack waiting

  -- the reading of the old nodes, from the next node on
  next_read : (points : List Listed) (nodes behind after_it : List Node) (stack below : List (Branch R)) (p : Branch R)
      (n : Node) (waiting : List (Waiting R)) (g : At points nodes behind stack waiting) → behind ≡ after_it ++ n ∷ [] → stack ≡ below ++ p ∷ [] →
      after (node_step rules points) g.passed (p ∷ reverse below) (n ∷ reverse after_it)
      ≡ Some (record { found = old; pending = [] })
  next_read points nodes behind after_it stack below p n waiting g split top =
      let ns : reverse behind ≡ n ∷ reverse after_it = ap reverse split ∙ reverse-append after_it (n ∷ []) in
      let ps : reverse stack ≡ p ∷ reverse below = ap reverse top ∙ reverse-append below (p ∷ []) in
      sym (ap (λ qs. after (node_step rules points) g.passed qs (reverse behind)) ps
      ∙ ap (λ ms. after (node_step rules points) g.passed (p ∷ reverse below) ms) ns)
      ∙ g.rest

  pub accepts_next : (points : List Listed) (nodes behind after_it : List Node) (stack below : List (Branch R)) (p : Branch R)
      (n : Node) (waiting : List (Waiting R)) → At points nodes behind stack waiting → behind ≡ after_it ++ n ∷ [] → stack ≡ below ++ p ∷ [] →
      IsRefused (node_step rules points 0 p n) → ⊥
  accepts_next points nodes behind after_it stack below p n waiting g split top =
      not_refused (node_step rules points) g.passed p (reverse below) n (reverse after_it)
      (record { found = old; pending = [] }) (node_step rules points 0 p n)
      (next_read points nodes behind after_it stack below p n waiting g split top)

  pub next_is_proper : (points : List Listed) (nodes behind : List Node) (stack below : List (Branch R)) (p : Branch R)
      (waiting : List (Waiting R)) → At points nodes behind stack waiting → stack ≡ below ++ p ∷ [] → Proper p.region
  next_is_proper points nodes behind stack below p waiting g top =
      (but_last (λ (q : Branch R). Proper q.region) below p
      (subst (λ ps. AllByRecursion (λ (q : Branch R). Proper q.region) ps) top g.proper)).last

  -- an old node that is written again
  pub copied : (points : List Listed) (nodes grown behind after_it : List Node) (stack below pending : List (Branch R))
      (p : Branch R) (n : Node) (waiting : List (Waiting R)) → At points nodes behind stack waiting → behind ≡ after_it ++ n ∷ [] →
      stack ≡ below ++ p ∷ [] → IsGrown n → Copies rules points p n nodes grown below pending →
      At points grown after_it pending waiting
  copied points nodes grown behind after_it stack below pending p n waiting g split top closes copies =
      let rule = node_step rules points in
      let s = node_step rules points 0 p n in
      let go = accepts_next points nodes behind after_it stack below p n waiting g split top in
      let here : Reading (Branch R) Node = record { found = g.found; pending = reverse stack } in
      let ps : reverse stack ≡ p ∷ reverse below = ap reverse top ∙ reverse-append below (p ∷ []) in
      let properly = but_last (λ (q : Branch R). Proper q.region) below p
      (subst (λ ps. AllByRecursion (λ (q : Branch R). Proper q.region) ps) top g.proper) in
      let smaller = children_smaller (λ (q : Branch R). Proper q.region) (size rules Proper weight points weighs) p s
      (step_fits rules Proper weight points weighs 0 p n properly.last) go in
      let behind_length : length behind ≡ length after_it + 1 = ap length split ∙ length-append after_it (n ∷ []) in
      let grown_length : length grown ≡ length nodes + 1 = ap length copies.written ∙ length-append nodes (n ∷ []) in
      let count : length nodes + length behind ≡ length grown + length after_it = omega (arith, behind_length, grown_length) in
      record {
        passed = with_leaf g.passed p n s;
        found = with_leaf g.found p n s;
        rest = ap (λ qs. after rule (with_leaf g.passed p n s) (reverse qs) (reverse after_it)) copies.follow
            ∙ sym (hands_on rule g.passed p below n (reverse after_it) s go)
            ∙ next_read points nodes behind after_it stack below p n waiting g split top;
        read = ap (λ ms. after rule [] (root ∷ []) ms) copies.written
            ∙ after-append rule [] (root ∷ []) nodes (n ∷ []) here g.read
            ∙ ap (λ qs. after rule g.found qs (n ∷ [])) ps
            ∙ hands_on rule g.found p below n [] s go
            ∙ ap (λ (qs : List (Branch R)). Some (record { found = with_leaf g.found p n s; pending = reverse qs })) (sym copies.follow);
        proper = subst (λ qs. AllByRecursion (λ (q : Branch R). Proper q.region) qs) (sym copies.follow)
            (AllByRecursion-append (λ (q : Branch R). Proper q.region) below (reverse (children_of s)) properly.front smaller.good);
        few = subst (λ k. IsWithin limit k) count g.few;
        closed = closed_on g.closed count;
        within = with_leaf_all (IsFromOpen rules old) g.found p n s g.within (grown_from rules old p n closes);
      }
    where
      same : (s : Step (Branch R) CheckFail) → open_branches (with_leaf g.found p n s) ≡ open_branches g.found
      same s =
          opens_none g.found p n s (not_open p n closes)
          ∙ ap (λ bs. open_branches g.found ++ bs) (not_open p n closes)
          ∙ append-nil (open_branches g.found)

      closed_on : PutsOff true (open_branches g.found) [] waiting ⊎ IsSpent limit (length nodes + length behind) →
          length nodes + length behind ≡ length grown + length after_it →
          PutsOff true (open_branches (with_leaf g.found p n (node_step rules points 0 p n))) [] waiting
          ⊎ IsSpent limit (length grown + length after_it)
      closed_on (inl off) count = inl (subst (λ bs. PutsOff true bs [] waiting) (sym (same (node_step rules points 0 p n))) off)
      closed_on (inr spent) count = inr (subst (λ k. IsSpent limit k) count spent)

  -- a tree in the place of an open node
  pub grown_here : (points better : List Listed) (nodes grown behind after_it : List Node) (stack below : List (Branch R))
      (p : Branch R) (waiting later : List (Waiting R)) → Improves points better → At points nodes behind stack waiting →
      behind ≡ after_it ++ Left ∷ [] → stack ≡ below ++ p ∷ [] →
      GrowsTree true rules better p limit (length after_it) nodes grown waiting later → At better grown after_it below later
  grown_here points better nodes grown behind after_it stack below p waiting later improves g split top t =
      let rule = node_step rules better in
      let keeps = keeps_accepted rules points better improves in
      let here : Reading (Branch R) Node = record { found = g.found; pending = reverse stack } in
      let leaf : Leaf (Branch R) Node = record { branch = p; node = Left } in
      let ps : reverse stack ≡ p ∷ reverse below = ap reverse top ∙ reverse-append below (p ∷ []) in
      let properly = but_last (λ (q : Branch R). Proper q.region) below p
      (subst (λ ps. AllByRecursion (λ (q : Branch R). Proper q.region) ps) top g.proper) in
      let end : Reading (Branch R) Node = record { found = old; pending = [] } in
      let rest = after-kept (node_step rules points) rule keeps (g.passed ++ leaf ∷ []) (reverse below) (reverse after_it) end
      (next_read points nodes behind after_it stack below p Left waiting g split top) in
      let more = adds rule (g.passed ++ leaf ∷ []) [] (reverse below) (reverse after_it) end
      (ap (λ f. after rule f (reverse below) (reverse after_it)) (append-nil (g.passed ++ leaf ∷ [])) ∙ rest) in
      let held : Contains old leaf =
      subst (λ ls. Contains ls leaf) (sym more.grown) (contains_middle g.passed leaf more.more) in
      let tree_end : Reading (Branch R) Node = record { found = t.leaves; pending = [] } in
      let framed = after-framed rule g.found (reverse below) [] (p ∷ []) t.tree tree_end t.accepted in
      let shrunk = leaves_shrink rules Proper weight weighs shrinks better p t.tree t.leaves t.accepted properly.last in
      record {
        passed = g.passed ++ leaf ∷ [];
        found = g.found ++ t.leaves;
        rest = rest;
        read = ap (λ ms. after rule [] (root ∷ []) ms) t.written
            ∙ after-append rule [] (root ∷ []) nodes t.tree here
            (after-kept (node_step rules points) rule keeps [] (root ∷ []) nodes here g.read)
            ∙ ap (λ qs. after rule g.found qs t.tree) ps
            ∙ ap (λ f. after rule f (p ∷ reverse below) t.tree) (sym (append-nil g.found))
            ∙ framed;
        proper = properly.front;
        few = t.few;
        closed = closed_on g.closed t.closed;
        within = AllByRecursion-append (IsFromOpen rules old) g.found t.leaves g.within
            (AllByRecursion-weaker (λ (l : Leaf (Branch R) Node). IsBelow rules Proper weight weighs shrinks better p.region l.branch)
            (IsFromOpen rules old) (λ l b e. (leaf, held, refl, b.shrunk)) t.leaves shrunk);
      }
    where
      closed_on : PutsOff true (open_branches g.found) [] waiting ⊎ IsSpent limit (length nodes + length behind) →
          (t.branches ≡ open_branches t.leaves) ⊎ IsSpent limit (length grown + length after_it) →
          PutsOff true (open_branches (g.found ++ t.leaves)) [] later ⊎ IsSpent limit (length grown + length after_it)
      closed_on (inl off) (inl all) =
          inl (subst (λ bs. PutsOff true bs [] later)
          (ap (λ bs. open_branches g.found ++ bs) all ∙ sym (open_branches-append g.found t.leaves))
          (puts_off_then true (open_branches g.found) t.branches [] waiting later off t.put_off))
      closed_on off (inr spent) = inr spent
      closed_on (inr spent) (inl all) =
          let behind_length : length behind ≡ length after_it + 1 = ap length split ∙ length-append after_it (Left ∷ []) in
          let grown_length : length grown ≡ length nodes + length t.tree = ap length t.written ∙ length-append nodes t.tree in
          let some = some_node (node_step rules better) p t.tree t.leaves t.accepted in
          inr (spent_more limit (length nodes + length behind) (length grown + length after_it) spent
          (omega (arith, behind_length, grown_length, some)))

  -- an old node always finds a branch
  pub no_branch : (points : List Listed) (nodes behind after_it : List Node) (stack : List (Branch R)) (n : Node)
      (waiting : List (Waiting R)) → At points nodes behind stack waiting → behind ≡ after_it ++ n ∷ [] → stack ≡ [] → ⊥
  no_branch points nodes behind after_it stack n waiting g split none =
      let ns : reverse behind ≡ n ∷ reverse after_it = ap reverse split ∙ reverse-append after_it (n ∷ []) in
      let ends : Reading (Branch R) Node = record { found = old; pending = [] } in
      let no : None ≡ Some ends =
      sym (ap (λ qs. after (node_step rules points) g.passed (reverse qs) (reverse behind)) none
      ∙ ap (λ ms. after (node_step rules points) g.passed [] ms) ns)
      ∙ g.rest in
      cc

  -- the whole tree lies behind
  pub begins : (points : List Listed) (nodes behind : List Node) (stack : List (Branch R)) (waiting : List (Waiting R)) →
      nodes ≡ [] → stack ≡ root ∷ [] → waiting ≡ [] → IsTree (node_step rules points) root (reverse behind) old →
      Proper root.region → IsWithin limit (length behind) → At points nodes behind stack waiting
  begins points nodes behind stack waiting none alone nothing tree proper few =
      let count : length behind ≡ length nodes + length behind = omega (arith, ap length none) in
      record {
        passed = [];
        found = [];
        rest = ap (λ qs. after (node_step rules points) [] (reverse qs) (reverse behind)) alone ∙ tree;
        read = ap (λ ms. after (node_step rules points) [] (root ∷ []) ms) none
            ∙ ap (λ (qs : List (Branch R)). Some (record { found = []; pending = reverse qs })) (sym alone);
        proper = subst (λ qs. AllByRecursion (λ (q : Branch R). Proper q.region) qs) (sym alone) (proper, tt);
        few = subst (λ k. IsWithin limit k) count few;
        closed = inl (subst (λ ws. PutsOff true [] [] ws) (sym nothing) (puts_off_none true []));
        within = tt;
      }

  -- nothing is left behind
  pub finished : (points : List Listed) (nodes behind : List Node) (stack : List (Branch R)) (waiting : List (Waiting R)) →
      At points nodes behind stack waiting → behind ≡ [] → Regrows rules points root limit old nodes waiting
  finished points nodes behind stack waiting g none =
      let ends : Reading (Branch R) Node = record { found = old; pending = [] } in
      let here : Reading (Branch R) Node = record { found = g.passed; pending = reverse stack } in
      let done : Some here ≡ Some ends =
      sym (ap (λ ms. after (node_step rules points) g.passed (reverse stack) (reverse ms)) none) ∙ g.rest in
      let same : here ≡ ends = cc in
      let empty : reverse stack ≡ [] = ap (λ r. r.pending) same in
      let count : length nodes + length behind ≡ length nodes = omega (arith, ap length none) in
      record {
        leaves = g.found;
        accepted = g.read ∙ ap (λ (qs : List (Branch R)). Some (record { found = g.found; pending = qs })) empty;
        few = subst (λ k. IsWithin limit k) count g.few;
        closed = closed_at g.closed count;
        within = g.within;
      }
    where
      closed_at : PutsOff true (open_branches g.found) [] waiting ⊎ IsSpent limit (length nodes + length behind) →
          length nodes + length behind ≡ length nodes →
          Await 0 waiting (open_branches g.found) ⊎ IsSpent limit (length nodes)
      closed_at (inl off) count = inl (subst (λ ws. Await 0 ws (open_branches g.found)) (sym off.behind) off.await)
      closed_at (inr spent) count = inr (subst (λ k. IsSpent limit k) count spent)

pub empty_from : {X : Type 0} (xs : List X) → length xs ≤ 0 → xs ≡ []
empty_from [] h = refl
empty_from (x ∷ xs) h = absurd (omega arith)

pub plain_node : (n : Node) → ((price : Price) (critical : List ℕ) → n ≡ Cut price critical → ⊥) → (n ≡ Left → ⊥) → IsPlain n
plain_node (Profit v) f g = tt
plain_node (Time v) f g = tt
plain_node (Count c) f g = tt
plain_node (Arc i j) f g = tt
plain_node (Cut price critical) f g = f price critical refl
plain_node Dominated f g = tt
plain_node (Cutoff k) f g = tt
plain_node (Stuck reason) f g = tt
plain_node Left f g = g refl

pub grown_node : (n : Node) → (n ≡ Left → ⊥) → IsGrown n
grown_node (Profit v) g = tt
grown_node (Time v) g = tt
grown_node (Count c) g = tt
grown_node (Arc i j) g = tt
grown_node (Cut price critical) g = tt
grown_node Dominated g = tt
grown_node (Cutoff k) g = tt
grown_node (Stuck reason) g = tt
grown_node Left g = g refl

pub within_before : (limit : Option ℕ) (a b c : ℕ) → IsWithin limit (a + b) → b ≡ c + 1 → IsWithin limit (a + 1 + c)
within_before None a b c w e = tt
within_before (Some n) a b c w e = omega (arith, w, e)
