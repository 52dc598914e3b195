-- Branches that wait, and the open leaves that they stand at.
use Rattle.std.proofs.Common.{◌≡◌, ℕ, ◌+◌, Bool, true, List, [], ◌∷◌, ◌++◌, length, reverse, refl, ap, subst, sym, ◌∙◌, arith, length-append}
use Rattle.std.proofs.lemmas.List.{append_assoc, append-nil, reverse-append}
use Rattle.orienteering.specs.Preorder.{Leaf}
use Rattle.orienteering.specs.declared.Listed.{Listed}
use Rattle.orienteering.specs.declared.Step.{Step}
use Rattle.orienteering.specs.declared.Step.TheVariants.{Refused, Ends, Child, Children}
use Rattle.orienteering.specs.RegionRules.{RegionRules}
use Rattle.orienteering.specs.Decision.{node_step, Branch}
use Rattle.orienteering.specs.declared.Node.{Node}
use Rattle.orienteering.specs.declared.Node.TheVariants.{Profit, Time, Count, Arc, Cut, Dominated, Cutoff, Stuck, Left}
use Rattle.growth.specs.declared.waiting.Waiting.{Waiting}
use Rattle.growth.specs.Reading.{after}
use Rattle.growth.specs.Growth.{IsRefused, IsGrown, Await, PutsOff, children_of, if_open, open_branches}
use Rattle.growth.proofs.Reading.{goes_on}

pub Await-append : {R : Type 0} (place : ℕ) (xs ys : List (Waiting R)) (bs cs : List (Branch R)) → Await place xs bs →
    Await (place + length xs) ys cs → Await place (xs ++ ys) (bs ++ cs)
Await-append place [] ys [] cs a h =
    let same : place + 0 ≡ place = omega arith in subst (λ k. Await k ys cs) same h
Await-append place [] ys (b ∷ bs) cs a h = absurd a
Await-append place (x ∷ xs) ys [] cs a h = absurd a
Await-append place (x ∷ xs) ys (b ∷ bs) cs a h =
    let same : place + length (x ∷ xs) ≡ place + 1 + length xs = omega arith in
    (a.0, a.1, Await-append (place + 1) xs ys bs cs a.2 (subst (λ k. Await k ys cs) same h))

pub puts_off_none : {R : Type 0} (may_wait : Bool) (waiting : List (Waiting R)) → PutsOff may_wait [] waiting waiting
puts_off_none may_wait waiting =
    record { more = []; behind = sym (append-nil waiting); await = tt; prompt = λ e. refl }

pub puts_off_then : {R : Type 0} (may_wait : Bool) (bs cs : List (Branch R)) (early waiting later : List (Waiting R)) →
    PutsOff may_wait bs early waiting → PutsOff may_wait cs waiting later → PutsOff may_wait (bs ++ cs) early later
puts_off_then may_wait bs cs early waiting later p q =
    record {
      more = p.more ++ q.more;
      behind = q.behind ∙ ap (λ ws. ws ++ q.more) p.behind ∙ append_assoc early p.more q.more;
      await = Await-append (length early) p.more q.more bs cs p.await
          (subst (λ k. Await k q.more cs) (ap length p.behind ∙ length-append early p.more) q.await);
      prompt = λ e. ap (λ ws. ws ++ q.more) (p.prompt e) ∙ q.prompt e;
    }

-- the branch of an open node is put off
pub puts_off_one : {R : Type 0} (may_wait : Bool) (b : Branch R) (w : Waiting R) (early waiting : List (Waiting R)) →
    may_wait ≡ true → waiting ≡ early ++ w ∷ [] → w.place ≡ length early → w.branch ≡ b →
    PutsOff may_wait (if_open b Left) early waiting
puts_off_one may_wait b w early waiting may behind place branch =
    record { more = w ∷ []; behind = behind; await = (place, branch, tt); prompt = λ e. absurd (cc) }

-- a node that isn't open has no open branch
pub not_open : {P : Type 0} (p : P) (n : Node) → IsGrown n → if_open p n ≡ []
not_open p (Profit v) g = refl
not_open p (Time v) g = refl
not_open p (Count c) g = refl
not_open p (Arc i j) g = refl
not_open p (Cut price critical) g = refl
not_open p Dominated g = refl
not_open p (Cutoff k) g = refl
not_open p (Stuck reason) g = refl
not_open p Left g = absurd g

pub open_branches-append : {P : Type 0} (xs ys : List (Leaf P Node)) →
    open_branches (xs ++ ys) ≡ open_branches xs ++ open_branches ys
open_branches-append [] ys = refl
open_branches-append (l ∷ ls) ys =
    ap (λ bs. if_open l.branch l.node ++ bs) (open_branches-append ls ys)
    ∙ sym (append_assoc (if_open l.branch l.node) (open_branches ls) (open_branches ys))

-- the leaves after one accepted node
abbrev pub with_leaf : {P N E : Type 0} → List (Leaf P N) → P → N → Step P E → List (Leaf P N)
with_leaf found p n (Refused e) = found
with_leaf found p n Ends = found ++ record { branch = p; node = n } ∷ []
with_leaf found p n (Child q) = found
with_leaf found p n (Children q r) = found

-- one accepted node hands the reading on to its children
pub hands_on : {P N E : Type 0} (step : ℕ → P → N → Step P E) (found : List (Leaf P N)) (p : P) (below : List P) (n : N)
    (ns : List N) (s : Step P E) → (IsRefused s → ⊥) →
    goes_on step found p (reverse below) n ns s
    ≡ after step (with_leaf found p n s) (reverse (below ++ reverse (children_of s))) ns
hands_on step found p below n ns (Refused e) go = absurd (go tt)
hands_on {P} {N} step found p below n ns Ends go =
    let l : Leaf P N = record { branch = p; node = n } in
    ap (λ (ps : List P). after step (found ++ l ∷ []) ps ns) (sym (reverse-append below []))
hands_on {P} step found p below n ns (Child q) go =
    ap (λ (ps : List P). after step found ps ns) (sym (reverse-append below (q ∷ [])))
hands_on {P} step found p below n ns (Children q r) go =
    ap (λ (ps : List P). after step found ps ns) (sym (reverse-append below (r ∷ q ∷ [])))

-- a leaf that isn't open is of no open branch
pub opens_none : {P E : Type 0} (found : List (Leaf P Node)) (p : P) (n : Node) (s : Step P E) → if_open p n ≡ [] →
    open_branches (with_leaf found p n s) ≡ open_branches found ++ if_open p n
opens_none {P} {E} found p n s none = kept s ∙ ap (λ bs. open_branches found ++ bs) (sym none)
  where
    kept : (s : Step P E) → open_branches (with_leaf found p n s) ≡ open_branches found ++ []
    kept (Refused e) = sym (append-nil (open_branches found))
    kept Ends =
        let l : Leaf P Node = record { branch = p; node = n } in
        open_branches-append found (l ∷ []) ∙ ap (λ bs. open_branches found ++ (bs ++ [])) none
    kept (Child q) = sym (append-nil (open_branches found))
    kept (Children q r) = sym (append-nil (open_branches found))

-- the leaf of one node is open where the node is
pub opens_one : {R : Type 0} (rules : RegionRules R) (points : List Listed) (found : List (Leaf (Branch R) Node)) (p : Branch R)
    (n : Node) → open_branches (with_leaf found p n (node_step rules points 0 p n)) ≡ open_branches found ++ if_open p n
opens_one rules points found p (Profit v) = opens_none found p (Profit v) (node_step rules points 0 p (Profit v)) refl
opens_one rules points found p (Time v) = opens_none found p (Time v) (node_step rules points 0 p (Time v)) refl
opens_one rules points found p (Count c) = opens_none found p (Count c) (node_step rules points 0 p (Count c)) refl
opens_one rules points found p (Arc i j) = opens_none found p (Arc i j) (node_step rules points 0 p (Arc i j)) refl
opens_one rules points found p (Cut price critical) =
    opens_none found p (Cut price critical) (node_step rules points 0 p (Cut price critical)) refl
opens_one rules points found p Dominated = opens_none found p Dominated (node_step rules points 0 p Dominated) refl
opens_one rules points found p (Cutoff k) = opens_none found p (Cutoff k) (node_step rules points 0 p (Cutoff k)) refl
opens_one rules points found p (Stuck reason) =
    opens_none found p (Stuck reason) (node_step rules points 0 p (Stuck reason)) refl
opens_one {R} rules points found p Left =
    let l : Leaf (Branch R) Node = record { branch = p; node = Left } in open_branches-append found (l ∷ [])
