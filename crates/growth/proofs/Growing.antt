-- The tree under work: what is written, and the branches that are pending.
use Rattle.std.proofs.Common.{◌≡◌, ℕ, ℤ, Bool, false, ◌+◌, ◌-◌, ◌*◌, ◌≤◌, ◌<◌, ◌⊎◌, inl, inr, cond, List, [], ◌∷◌, ◌++◌, length, reverse, replicate, refl, ap, subst, sym, ◌∙◌, arith, length-append}
use Rattle.std.proofs.lemmas.List.{append_assoc, append-nil, reverse-append, length-reverse, length-replicate}
use Rattle.std.proofs.lemmas.List.Sums.{sum_by-cons, sum_by-append}
use Rattle.std.specs.List.{AllByRecursion, sum_by}
use Rattle.std.specs.declared.option.Option.{Option}
use Rattle.std.specs.declared.option.Option.TheVariants.{None, Some}
use Rattle.std.specs.Result.{OnOk}
use Rattle.std.specs.declared.result.Result.{Result}
use Rattle.std.specs.declared.result.Result.TheVariants.{Ok, Err}
use Rattle.orienteering.specs.Preorder.{Leaf}
use Rattle.orienteering.specs.declared.Listed.{Listed}
use Rattle.orienteering.specs.declared.Step.{Step}
use Rattle.orienteering.specs.declared.Step.TheVariants.{Refused, Ends, Child, Children}
use Rattle.orienteering.proofs.Lists.{AllByRecursion-append}
use Rattle.orienteering.specs.RegionRules.{RegionRules}
use Rattle.orienteering.specs.Decision.{node_step, Branch}
use Rattle.orienteering.specs.Size.{IsWeight}
use Rattle.growth.proofs.Size.{step_fits}
use Rattle.orienteering.specs.declared.Node.{Node}
use Rattle.orienteering.specs.declared.Node.TheVariants.{Cut, Left}
use Rattle.orienteering.specs.declared.CutOnPath.{CutOnPath}
use Rattle.orienteering.specs.declared.Price.{Price}
use Rattle.growth.specs.declared.world.Proposal.TheVariants.{Replayed}
use Rattle.growth.specs.Branches.{branch_below}
use Rattle.growth.specs.Reading.{Reading, after}
use Rattle.growth.specs.declared.waiting.Waiting.{Waiting}
use Rattle.growth.specs.Growth.{Improves, IsReplayed, IsRefused, Grows, Advances, PutsOff, GrowsTree, IsWithin, IsSpent, HasRoom, children_of, if_open, open_branches}
use Rattle.growth.proofs.Reading.{after-append, after-kept}
use Rattle.growth.proofs.Awaiting.{hands_on, with_leaf, opens_one, not_open, puts_off_none, puts_off_then}
use Rattle.growth.proofs.Steps.{keeps_accepted, children_smaller, cut_is}

-- Nodes that were written behind others, in the place of an open node, and a stack of the branches that are pending. The
-- branches of the open leaves among them wait.
pub record Growing {R : Type 0} (may_wait : Bool) (rules : RegionRules R) (Proper : R → Type 0) (points : List Listed) (root : Branch R)
    (limit : Option ℕ) (others : ℕ) (before nodes : List Node) (stack : List (Branch R)) (early waiting : List (Waiting R)) : Type 0 where
  pub tree : List Node
  pub found : List (Leaf (Branch R) Node)
  pub read : after (node_step rules points) [] (root ∷ []) tree ≡ Some (record { found = found; pending = reverse stack })
  pub written : nodes ≡ before ++ tree
  pub put_off : PutsOff may_wait (open_branches found) early waiting
  pub proper : AllByRecursion (λ p. Proper p.region) stack
  pub within : IsWithin limit (length nodes + length stack + others)

-- a list of which a property holds throughout, but for its last element
pub record ButLast {X : Type 0} (Holds : X → Type 0) (xs : List X) (x : X) : Type 0 where
  pub front : AllByRecursion Holds xs
  pub last : Holds x

pub but_last : {X : Type 0} (Holds : X → Type 0) (xs : List X) (x : X) → AllByRecursion Holds (xs ++ x ∷ []) → ButLast Holds xs x
but_last Holds [] x a = record { front = tt; last = a.0 }
but_last Holds (y ∷ ys) x a =
    let rest = but_last Holds ys x a.1 in record { front = (a.0, rest.front); last = rest.last }

few_children : {P E : Type 0} (s : Step P E) → length (reverse (children_of s)) ≤ 2
few_children (Refused e) = omega arith
few_children Ends = omega arith
few_children (Child q) = omega arith
few_children (Children q r) = omega arith

still_within : (limit : Option ℕ) (count more : ℕ) → HasRoom limit count → more ≤ count + 2 → IsWithin limit more
still_within None count more room fits = tt
still_within (Some n) count more room fits = omega (arith, room)

-- how many nodes may still come below a branch
abbrev pub room_of : {R : Type 0} → (R → ℕ) → Branch R → ℕ
room_of weight p = 4 * weight p.region - cond p.under_cut 3 2

pub goes_further : {R : Type 0} (may_wait : Bool) (rules : RegionRules R) (Proper : R → Type 0) (weight : R → ℕ)
    (weighs : IsWeight rules Proper weight) (root : Branch R) (limit : Option ℕ) (others : ℕ) (before : List Node)
    (points better : List Listed) (nodes grown : List Node) (stack rest pending : List (Branch R)) (p : Branch R)
    (early waiting later : List (Waiting R)) → Improves points better →
    Growing may_wait rules Proper points root limit others before nodes stack early waiting → stack ≡ rest ++ p ∷ [] →
    HasRoom limit (length nodes + others + length stack) →
    Advances may_wait rules better p nodes grown rest pending waiting later →
    Growing may_wait rules Proper better root limit others before grown pending early later
    × (sum_by (room_of weight) pending < sum_by (room_of weight) stack)
goes_further {R} may_wait rules Proper weight weighs root limit others before points better nodes grown stack rest pending p
    early waiting later improves g split room gr =
    let rule = node_step rules better in
    let s = node_step rules better 0 p gr.node in
    let here : Reading (Branch R) Node = record { found = g.found; pending = reverse stack } in
    let kept = after-kept (node_step rules points) rule (keeps_accepted rules points better improves) [] (root ∷ []) g.tree here g.read in
    let next : reverse stack ≡ p ∷ reverse rest = ap reverse split ∙ reverse-append rest (p ∷ []) in
    let found = with_leaf g.found p gr.node s in
    let properly = but_last (λ (q : Branch R). Proper q.region) rest p
    (subst (λ ps. AllByRecursion (λ (q : Branch R). Proper q.region) ps) split g.proper) in
    let below = children_smaller (λ (q : Branch R). Proper q.region) (room_of weight) p s
    (step_fits rules Proper weight better weighs 0 p gr.node properly.last) gr.accepted in
    let follow = gr.follow in
    let stacked : length stack ≡ length rest + 1 = ap length split ∙ length-append rest (p ∷ []) in
    let pending_length : length pending ≡ length rest + length (reverse (children_of s)) =
    ap length follow ∙ length-append rest (reverse (children_of s)) in
    let grown_length : length grown ≡ length nodes + 1 = ap length gr.written ∙ length-append nodes (gr.node ∷ []) in
    let few = few_children s in
    let stack_room : sum_by (room_of weight) stack ≡ sum_by (room_of weight) rest + sum_by (room_of weight) (p ∷ []) =
    ap (λ ps. sum_by (room_of weight) ps) split ∙ sum_by-append (room_of weight) rest (p ∷ []) in
    let pending_room : sum_by (room_of weight) pending
    ≡ sum_by (room_of weight) rest + sum_by (room_of weight) (reverse (children_of s)) =
    ap (λ ps. sum_by (room_of weight) ps) follow ∙ sum_by-append (room_of weight) rest (reverse (children_of s)) in (
      record {
        tree = g.tree ++ gr.node ∷ [];
        found = found;
        read = after-append rule [] (root ∷ []) g.tree (gr.node ∷ []) here kept
            ∙ ap (λ ps. after rule g.found ps (gr.node ∷ [])) next
            ∙ hands_on rule g.found p rest gr.node [] s gr.accepted
            ∙ ap (λ (ps : List (Branch R)). Some (record { found = found; pending = reverse ps })) (sym follow);
        written = gr.written ∙ ap (λ ns. ns ++ gr.node ∷ []) g.written ∙ append_assoc before g.tree (gr.node ∷ []);
        put_off = subst (λ bs. PutsOff may_wait bs early later) (sym (opens_one rules better g.found p gr.node))
            (puts_off_then may_wait (open_branches g.found) (if_open p gr.node) early waiting later g.put_off gr.put_off);
        proper = subst (λ ps. AllByRecursion (λ (q : Branch R). Proper q.region) ps) (sym follow)
            (AllByRecursion-append (λ (q : Branch R). Proper q.region) rest (reverse (children_of s)) properly.front below.good);
        within = still_within limit (length nodes + others + length stack) (length grown + length pending + others) room
            (omega (arith, stacked, pending_length, grown_length, few));
      },
      omega (arith, stack_room, pending_room, below.smaller, sum_by-cons (room_of weight) p []),
    )

-- branches that are left open end the reading
read_open : {R : Type 0} (rules : RegionRules R) (points : List Listed) (found : List (Leaf (Branch R) Node)) (ps : List (Branch R)) →
    (leaves : List (Leaf (Branch R) Node)) × (after (node_step rules points) found ps (replicate (length ps) Left)
    ≡ Some (record { found = leaves; pending = [] })) × (ps ≡ [] → leaves ≡ found)
read_open rules points found [] = (found, refl, λ e. refl)
read_open {R} rules points found (p ∷ ps) =
    let l : Leaf (Branch R) Node = record { branch = p; node = Left } in
    let rest = read_open rules points (found ++ l ∷ []) ps in (rest.0, rest.1, λ e. absurd (cc))

pub leaves_open : {R : Type 0} (may_wait : Bool) (rules : RegionRules R) (Proper : R → Type 0) (root : Branch R) (limit : Option ℕ)
    (others : ℕ) (before : List Node) (points : List Listed) (nodes grown : List Node) (stack : List (Branch R))
    (early waiting : List (Waiting R)) → Growing may_wait rules Proper points root limit others before nodes stack early waiting →
    (stack ≡ []) ⊎ IsSpent limit (length nodes + others + length stack) →
    grown ≡ nodes ++ replicate (length stack) Left → GrowsTree may_wait rules points root limit others before grown early waiting
leaves_open {R} may_wait rules Proper root limit others before points nodes grown stack early waiting g spent written =
    let k = length stack in
    let here : Reading (Branch R) Node = record { found = g.found; pending = reverse stack } in
    let open_ones = read_open rules points g.found (reverse stack) in
    let grown_length : length grown ≡ length nodes + k =
    ap length written ∙ length-append nodes (replicate k Left) ∙ ap (λ j. length nodes + j) (length-replicate k Left) in
    let count : length nodes + others + k ≡ length grown + others = omega (arith, grown_length) in
    let within : length nodes + k + others ≡ length grown + others = omega (arith, grown_length) in
    record {
      tree = g.tree ++ replicate k Left;
      leaves = open_ones.0;
      accepted = after-append (node_step rules points) [] (root ∷ []) g.tree (replicate k Left) here g.read
          ∙ ap (λ j. after (node_step rules points) g.found (reverse stack) (replicate j Left)) (sym (length-reverse stack))
          ∙ open_ones.1;
      written = written ∙ ap (λ ns. ns ++ replicate k Left) g.written ∙ append_assoc before g.tree (replicate k Left);
      few = subst (λ c. IsWithin limit c) within g.within;
      branches = open_branches g.found;
      put_off = g.put_off;
      closed = closed_by open_ones.0 open_ones.2 count spent;
    }
  where
    closed_by : (leaves : List (Leaf (Branch R) Node)) → (reverse stack ≡ [] → leaves ≡ g.found) →
        length nodes + others + length stack ≡ length grown + others →
        (stack ≡ []) ⊎ IsSpent limit (length nodes + others + length stack) →
        (open_branches g.found ≡ open_branches leaves) ⊎ IsSpent limit (length grown + others)
    closed_by leaves same count (inl none) = inl (sym (ap (λ ls. open_branches ls) (same (ap reverse none))))
    closed_by leaves same count (inr spent) = inr (subst (λ c. IsSpent limit c) count spent)

pub room_at : (limit : Option ℕ) (a b : ℕ) → HasRoom limit a → a ≡ b → HasRoom limit b
room_at limit a b room same = subst (λ k. HasRoom limit k) same room

-- the branch itself is pending before anything is written
pub starts : {R : Type 0} (may_wait : Bool) (rules : RegionRules R) (Proper : R → Type 0) (points : List Listed) (root : Branch R)
    (limit : Option ℕ) (others : ℕ) (nodes : List Node) (stack : List (Branch R)) (early : List (Waiting R)) → stack ≡ root ∷ [] →
    Proper root.region → IsWithin limit (length nodes + 1 + others) →
    Growing may_wait rules Proper points root limit others nodes nodes stack early early
starts {R} may_wait rules Proper points root limit others nodes stack early alone proper within =
    let one : length stack ≡ 1 = ap length alone in
    record {
      tree = [];
      found = [];
      read = ap (λ (ps : List (Branch R)). Some (record { found = []; pending = reverse ps })) (sym alone);
      written = sym (append-nil nodes);
      put_off = puts_off_none may_wait early;
      proper = subst (λ ps. AllByRecursion (λ (q : Branch R). Proper q.region) ps) (sym alone) (proper, tt);
      within = subst (λ k. IsWithin limit (length nodes + k + others)) (sym one) within;
    }

-- the next branch is proper
pub next_is_proper : {R : Type 0} (may_wait : Bool) (rules : RegionRules R) (Proper : R → Type 0) (points : List Listed) (root : Branch R)
    (limit : Option ℕ) (others : ℕ) (before nodes : List Node) (stack rest : List (Branch R)) (p : Branch R)
    (early waiting : List (Waiting R)) → Growing may_wait rules Proper points root limit others before nodes stack early waiting →
    stack ≡ rest ++ p ∷ [] → Proper p.region
next_is_proper {R} may_wait rules Proper points root limit others before nodes stack rest p early waiting g split =
    (but_last (λ (q : Branch R). Proper q.region) rest p
    (subst (λ ps. AllByRecursion (λ (q : Branch R). Proper q.region) ps) split g.proper)).last

-- where no next branch is taken, the branches that are pending are left open
pub stops : {R : Type 0} (may_wait : Bool) (rules : RegionRules R) (Proper : R → Type 0) (root : Branch R) (limit : Option ℕ)
    (others : ℕ) (before : List Node) (points : List Listed) (nodes grown : List Node) (stack rest : List (Branch R))
    (early waiting : List (Waiting R)) (count k : ℕ) →
    Growing may_wait rules Proper points root limit others before nodes stack early waiting →
    ((stack ≡ []) ⊎ IsSpent limit count) × (rest ≡ stack) → count ≡ length nodes + others + length stack →
    k ≡ length rest → grown ≡ nodes ++ replicate k Left →
    GrowsTree may_wait rules points root limit others before grown early waiting
stops may_wait rules Proper root limit others before points nodes grown stack rest early waiting count k g (reason, same) counted
    open_ones written =
    let all : k ≡ length stack = open_ones ∙ ap length same in
    leaves_open may_wait rules Proper root limit others before points nodes grown stack early waiting g (spent_at reason)
    (written ∙ ap (λ j. nodes ++ replicate j Left) all)
  where
    spent_at : (stack ≡ []) ⊎ IsSpent limit count → (stack ≡ []) ⊎ IsSpent limit (length nodes + others + length stack)
    spent_at (inl none) = inl none
    spent_at (inr spent) = inr (subst (λ j. IsSpent limit j) counted spent)

pub none_if : {X : Type 0} (o : Option X) → ((x : X) → o ≡ Some x → ⊥) → o ≡ None
none_if None f = refl
none_if (Some x) f = absurd (f x refl)

pub on_ok : {X E : Type 0} (r : Result X E) (P Q : Type 0) → (P → Q) → OnOk r P → OnOk r Q
on_ok (Ok x) P Q f h = f h
on_ok (Err e) P Q f h = tt

-- a growth puts nothing off
pub advances : {R : Type 0} (may_wait : Bool) (rules : RegionRules R) (points : List Listed) (branch : Branch R)
    (nodes grown : List Node) (stack pending : List (Branch R)) (waiting : List (Waiting R)) →
    Grows rules points branch nodes grown stack pending →
    Advances may_wait rules points branch nodes grown stack pending waiting waiting
advances may_wait rules points branch nodes grown stack pending waiting g =
    record {
      node = g.node;
      accepted = g.accepted;
      written = g.written;
      follow = g.follow;
      put_off = subst (λ bs. PutsOff may_wait bs waiting waiting) (sym (not_open branch g.node g.closes))
          (puts_off_none may_wait waiting);
    }

-- a cut that is replayed is a growth
pub cut_grows : {R : Type 0} (rules : RegionRules R) (points : List Listed) (p below : Branch R) (price : Price)
    (critical : List ℕ) (bound : ℤ) (cut : CutOnPath) (nodes grown : List Node) (stack pending : List (Branch R)) →
    p.under_cut ≡ false → IsReplayed rules p.region (Replayed price critical bound) →
    cut ≡ record { alpha = price.alpha; beta = price.beta; bound = bound } → below ≡ branch_below p cut →
    grown ≡ nodes ++ Cut price critical ∷ [] → pending ≡ stack ++ below ∷ [] →
    Grows rules points p nodes grown stack pending
cut_grows {R} rules points p below price critical bound cut nodes grown stack pending free replayed which child written follow =
    let is = cut_is rules points p price critical bound free replayed.0 replayed.1 replayed.2 in
    record {
      node = Cut price critical;
      closes = tt;
      accepted = subst (λ s. IsRefused s → ⊥) (sym is) (λ r. r);
      written = written;
      follow = follow
          ∙ ap (λ b. stack ++ b ∷ []) (child ∙ ap (λ c. branch_below p c) which)
          ∙ ap (λ s. stack ++ reverse (children_of s)) (sym is);
    }
