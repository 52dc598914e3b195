-- The trees that take the places of the branches that wait.
use Rattle.std.proofs.Common.{◌≡◌, ℕ, zero, suc, ◌+◌, ◌-◌, ◌<◌, ◌≤◌, ◌⊎◌, inl, inr, Bool, true, false, eqb, List, [], ◌∷◌, ◌++◌, length, replicate, set, get_or, refl, ap, subst, sym, ◌∙◌, arith, length-set, get_or-set_same, get_or-set_other}
use Rattle.std.specs.List.{AllByRecursion, Contains, IsDistinct, sum_by}
use Rattle.std.specs.List.Sorted.{IsPermutation}
use Rattle.std.specs.Option.{MatchOption}
use Rattle.std.proofs.lemmas.Bool.{cases_eq, eq-eqb, eqb-true}
use Rattle.std.proofs.lemmas.List.{append-nil, get_or-replicate, length-replicate}
use Rattle.std.proofs.lemmas.List.Sorted.{Contains-permutation, IsPermutation-sym, IsPermutation-to_front}
use Rattle.std.proofs.lemmas.List.Sums.{sum_by-cons, sum_by-set}
use Rattle.std.proofs.lemmas.Map.Keys.{IsDistinct-cons, IsDistinct-head, IsDistinct-tail, IsDistinct-IsPermutation}
use Rattle.std.specs.declared.option.Option.{Option}
use Rattle.std.specs.declared.option.Option.TheVariants.{None, Some}
use Rattle.orienteering.specs.Preorder.{Leaf}
use Rattle.orienteering.specs.declared.Listed.{Listed}
use Rattle.orienteering.proofs.Lists.{AllByRecursion-append, AllByRecursion-weaker, AllByRecursion-contains, AllByRecursion-from_contains, Contains-head, Contains-tail}
use Rattle.orienteering.specs.RegionRules.{RegionRules}
use Rattle.orienteering.specs.Decision.{node_step, Branch}
use Rattle.orienteering.specs.Size.{IsWeight}
use Rattle.orienteering.specs.declared.Node.{Node}
use Rattle.orienteering.specs.declared.Node.TheVariants.{Profit, Time, Count, Arc, Cut, Dominated, Cutoff, Stuck, Left}
use Rattle.growth.specs.declared.waiting.Waiting.{Waiting}
use Rattle.growth.specs.Reading.{Reading, after, IsTree}
use Rattle.growth.specs.Growth.{Improves, IsGrown, Await, GrowsTree, AreAwaited, IsWithin, IsSpent, IsRoom, room_after, SplitsShrink, Completes, if_open, open_branches, with_trees}
use Rattle.growth.proofs.Reading.{after-kept}
use Rattle.growth.proofs.Steps.{keeps_accepted}
use Rattle.growth.proofs.Regrowing.{some_node}
use Rattle.growth.proofs.Shrinking.{IsBelow, leaves_shrink}
use Rattle.growth.proofs.Placing.{Fit, Fit-length, Fit-open, Fit-set, Fit-kept, StandsAt, place_below, IsOld, places, all_grown}

-- two branches wait at one place
abbrev pub same_place : {R : Type 0} → Waiting R → Waiting R → Bool
same_place v w = eqb v.place w.place

-- some branch waits at the place
abbrev pub IsPlace : {R : Type 0} → List (Waiting R) → ℕ → Type 0
IsPlace {R} waiting k = (w : Waiting R) × Contains waiting w × (w.place ≡ k)

-- no open node may give way to more nodes than one
abbrev pub IsUsed : Option ℕ → Type 0
IsUsed room = MatchOption room ⊥ (λ more. more ≤ 1)

-- A tree at each of the branches that waited: those that wait still stand at open nodes, each at a place of its own, and
-- the other trees have no open nodes where there is room.
pub record Completing {R : Type 0} (rules : RegionRules R) (points : List Listed) (root : Branch R) (nodes : List Node)
    (leaves : List (Leaf (Branch R) Node)) (limit room : Option ℕ) (trees : List (List Node)) (waiting : List (Waiting R)) : Type 0 where
  pub read : IsTree (node_step rules points) root nodes leaves
  pub fit : Fit rules points trees (open_branches leaves)
  pub stand : (w : Waiting R) → Contains waiting w →
      StandsAt (open_branches leaves) w.place w.branch × (get_or trees w.place [] ≡ Left ∷ [])
  pub distinct : IsDistinct same_place waiting
  pub closed : ((k : ℕ) → k < length trees → AllByRecursion IsGrown (get_or trees k []) ⊎ IsPlace waiting k) ⊎ IsUsed room
  pub count : ℕ
  pub sized : count + length trees ≡ length nodes + sum_by (λ t. length t) trees
  pub left : IsRoom limit room count

-- where the branches wait from the first place on
pub await_at : {R : Type 0} (place : ℕ) (ws : List (Waiting R)) (bs : List (Branch R)) (w : Waiting R) → Await place ws bs →
    Contains ws w → (i : ℕ) × (w.place ≡ place + i) × StandsAt bs i w.branch
await_at place [] bs w a (k, below, same) = absurd (omega arith)
await_at place (x ∷ xs) [] w a c = absurd a
await_at place (x ∷ xs) (b ∷ bs) w a (zero, below, same) =
    (0, ap (λ v. v.place) (sym same) ∙ a.0 ∙ omega arith, sym a.1 ∙ ap (λ v. v.branch) same)
await_at place (x ∷ xs) (b ∷ bs) w a (suc k, below, same) =
    let rest = await_at (place + 1) xs bs w a.2 (k, omega arith, same) in
    (suc rest.0, rest.1 ∙ omega arith, rest.2)

await_has : {R : Type 0} (place i : ℕ) (ws : List (Waiting R)) (bs : List (Branch R)) → Await place ws bs → i < length ws →
    (w : Waiting R) × Contains ws w × (w.place ≡ place + i)
await_has place i [] bs a h = absurd (omega arith)
await_has place i (x ∷ xs) [] a h = absurd a
await_has place zero (x ∷ xs) (b ∷ bs) a h = (x, Contains-head x xs, a.0 ∙ omega arith)
await_has place (suc i) (x ∷ xs) (b ∷ bs) a h =
    let rest = await_has (place + 1) i xs bs a.2 (omega arith) in
    (rest.0, Contains-tail rest.0 x xs rest.1, rest.2 ∙ omega arith)

await_length : {R : Type 0} (place : ℕ) (ws : List (Waiting R)) (bs : List (Branch R)) → Await place ws bs → length ws ≡ length bs
await_length place [] [] a = refl
await_length place [] (b ∷ bs) a = absurd a
await_length place (x ∷ xs) [] a = absurd a
await_length place (x ∷ xs) (b ∷ bs) a = ap (λ n. suc n) (await_length (place + 1) xs bs a.2)

differ : (a b : ℕ) → (a ≡ b → ⊥) → eqb a b ≡ false
differ a b h = elim (eqb a b) as (λ t. eqb a b ≡ t → t ≡ false) [ true ↦ λ e. absurd (h (eqb-true a b e)) | false ↦ λ e. refl ] refl

await_distinct : {R : Type 0} (place : ℕ) (ws : List (Waiting R)) (bs : List (Branch R)) → Await place ws bs → IsDistinct same_place ws
unfolding IsDistinct
await_distinct place [] bs a = tt
await_distinct place (x ∷ xs) [] a = absurd a
await_distinct {R} place (x ∷ xs) (b ∷ bs) a =
    IsDistinct-cons same_place x xs
    (AllByRecursion-from_contains (λ (y : Waiting R). eqb x.place y.place ≡ false) xs
    (λ y held.
    let at = await_at (place + 1) xs bs y a.2 held in
    differ x.place y.place (λ e. let first = a.0 in let there = at.1 in omega arith)))
    (await_distinct (place + 1) xs bs a.2)

-- what a list with one more element holds
contains_last : {X : Type 0} (xs : List X) (y x : X) → Contains (xs ++ y ∷ []) x → Contains xs x ⊎ (x ≡ y)
contains_last [] y x (zero, below, same) = inr (sym same)
contains_last [] y x (suc k, below, same) = absurd (omega arith)
contains_last (z ∷ zs) y x (zero, below, same) = inl (0, omega arith, same)
contains_last (z ∷ zs) y x (suc k, below, same) =
    elim (contains_last zs y x (k, omega arith, same)) [
      | inl held ↦ inl (Contains-tail x z zs held)
      | inr last ↦ inr last
    ]

contains_end : {X : Type 0} (xs : List X) (y : X) → Contains (xs ++ y ∷ []) y
contains_end [] y = Contains-head y []
contains_end (x ∷ xs) y = Contains-tail y x (xs ++ y ∷ []) (contains_end xs y)

contains_more : {X : Type 0} (xs : List X) (y x : X) → Contains xs x → Contains (xs ++ y ∷ []) x
contains_more [] y x (k, below, same) = absurd (omega arith)
contains_more (z ∷ zs) y x (zero, below, same) = (0, omega arith, same)
contains_more (z ∷ zs) y x (suc k, below, same) =
    Contains-tail x z (zs ++ y ∷ []) (contains_more zs y x (k, omega arith, same))

-- the trees of one node have as many nodes as there are trees
sum_open : (n : ℕ) → sum_by (λ (t : List Node). length t) (replicate n (Left ∷ [])) ≡ n
sum_open zero = refl
sum_open (suc n) =
    omega (arith, sum_by-cons (λ (t : List Node). length t) (Left ∷ []) (replicate n (Left ∷ [])), sum_open n)

flips : (a b : ℕ) → eqb a b ≡ eqb b a
flips a b =
    elim (cases_eq a b) [
      | inl e ↦ eq-eqb a b e ∙ sym (eq-eqb b a (sym e))
      | inr h ↦ differ a b h ∙ sym (differ b a (λ e. h (sym e)))
    ]

-- at first each tree is an open node
pub begins : {R : Type 0} (rules : RegionRules R) (Proper : R → Type 0) (points : List Listed) (root : Branch R) (nodes : List Node)
    (leaves : List (Leaf (Branch R) Node)) (limit room : Option ℕ) (trees : List (List Node)) (early waiting : List (Waiting R))
    (count : ℕ) → AreAwaited rules Proper points root nodes leaves early → IsPermutation early waiting → count ≡ length early →
    trees ≡ replicate count (Left ∷ []) → IsRoom limit room (length nodes) →
    Completing rules points root nodes leaves limit room trees waiting
begins {R} rules Proper points root nodes leaves limit room trees early waiting count a moved counted open_ones left =
    let bs = open_branches leaves in
    let many : count ≡ length bs = counted ∙ await_length 0 early bs a.await in
    let at_each : trees ≡ replicate (length bs) (Left ∷ []) = open_ones ∙ ap (λ n. replicate n (Left ∷ [])) many in
    let tree_count : length trees ≡ length bs = ap length at_each ∙ length-replicate (length bs) (Left ∷ []) in
    let sum : sum_by (λ (t : List Node). length t) trees ≡ length bs =
    ap (λ ts. sum_by (λ (t : List Node). length t) ts) at_each ∙ sum_open (length bs) in
    record {
      read = a.accepted;
      fit = subst (λ ts. Fit rules points ts bs) (sym at_each) (Fit-open rules points bs);
      stand = λ w held.
          let at = await_at 0 early bs w a.await (Contains-permutation waiting early w (IsPermutation-sym early waiting moved) held) in
          let place : at.0 ≡ w.place = omega (arith, at.1) in
          let stands = subst (λ k. StandsAt bs k w.branch) place at.2 in (
            stands,
            ap (λ ts. get_or ts w.place []) at_each
                ∙ get_or-replicate (length bs) w.place (Left ∷ []) [] (place_below bs w.place w.branch stands),
          );
      distinct = IsDistinct-IsPermutation same_place (λ v w. flips v.place w.place) early waiting moved (await_distinct 0 early bs a.await);
      closed = inl (λ k below.
          let w = await_has 0 k early bs a.await (omega (arith, tree_count, await_length 0 early bs a.await)) in
          inr (w.0, Contains-permutation early waiting w.0 moved w.1, w.2 ∙ omega arith));
      count = length nodes;
      sized = omega (arith, tree_count, sum);
      left = left;
    }

-- where the budget bounds a tree in the place of an open node, it bounds the whole
room_kept : (limit room : Option ℕ) (count more total : ℕ) → IsRoom limit room count → IsWithin room more → 1 ≤ more →
    total + 1 ≡ count + more → IsRoom limit (room_after room more) total
room_kept None None count more total r w some e = tt
room_kept None (Some k) count more total r w some e = absurd r
room_kept (Some n) None count more total r w some e = absurd r
room_kept (Some n) (Some k) count more total r w some e = omega (arith, r, w)

used_after : (room : Option ℕ) (more : ℕ) → IsSpent room more → IsUsed (room_after room more)
used_after None more s = s
used_after (Some k) more s = omega (arith, s)

used_still : (room : Option ℕ) (more : ℕ) → 1 ≤ more → IsUsed room → IsUsed (room_after room more)
used_still None more some u = u
used_still (Some k) more some u = omega (arith, u)

room_is_within : (limit room : Option ℕ) (count : ℕ) → IsRoom limit room count → IsWithin limit count
room_is_within None None count r = tt
room_is_within None (Some k) count r = absurd r
room_is_within (Some n) None count r = absurd r
room_is_within (Some n) (Some k) count r = omega (arith, r)

used_is_spent : (limit room : Option ℕ) (count : ℕ) → IsRoom limit room count → IsUsed room → IsSpent limit count
used_is_spent None None count r u = u
used_is_spent None (Some k) count r u = absurd r
used_is_spent (Some n) None count r u = absurd r
used_is_spent (Some n) (Some k) count r u = omega (arith, r, u)

await_none : {R : Type 0} (place : ℕ) (bs : List (Branch R)) → Await place [] bs → bs ≡ []
await_none place [] a = refl
await_none place (b ∷ bs) a = absurd a

all_at : (P : List Node → Type 0) (ts : List (List Node)) → ((k : ℕ) → k < length ts → P (get_or ts k [])) → AllByRecursion P ts
all_at P [] f = tt
all_at P (t ∷ ts) f = (f 0 (omega arith), all_at P ts (λ k below. f (suc k) (omega arith)))

-- a tree in which nothing is put off has no open nodes, where the budget isn't spent
closes : {R : Type 0} (rules : RegionRules R) (points : List Listed) (b : Branch R) (room : Option ℕ) (tree : List Node)
    (early waiting : List (Waiting R)) (t : GrowsTree false rules points b room 0 [] tree early waiting) →
    (t.branches ≡ open_branches t.leaves) ⊎ IsSpent room (length tree + 0) → AllByRecursion IsGrown tree ⊎ IsSpent room (length tree)
closes {R} rules points b room tree early waiting t (inl all) =
    let none : t.branches ≡ [] =
    await_none (length early) t.branches (subst (λ ws. Await (length early) ws t.branches) (t.put_off.prompt refl) t.put_off.await) in
    let end : Reading (Branch R) Node = record { found = t.leaves; pending = [] } in
    inl (subst (λ ns. AllByRecursion IsGrown ns) (sym t.written)
    (all_grown rules points [] (b ∷ []) t.tree end t.accepted (sym all ∙ none)))
closes rules points b room tree early waiting t (inr spent) =
    let same : length tree + 0 ≡ length tree = omega arith in inr (subst (λ k. IsSpent room k) same spent)

-- one branch that waits gives way to its tree
pub completes_one : {R : Type 0} (rules : RegionRules R) (points better : List Listed) (root : Branch R) (nodes : List Node)
    (leaves : List (Leaf (Branch R) Node)) (limit room : Option ℕ) (trees : List (List Node)) (waiting rest later : List (Waiting R))
    (w : Waiting R) (tree : List Node) → Improves points better →
    Completing rules points root nodes leaves limit room trees waiting → waiting ≡ rest ++ w ∷ [] →
    GrowsTree false rules better w.branch room 0 [] tree rest later →
    Completing rules better root nodes leaves limit (room_after room (length tree)) (set trees w.place tree) later
completes_one {R} rules points better root nodes leaves limit room trees waiting rest later w tree improves c split t =
    let keeps = keeps_accepted rules points better improves in
    let bs = open_branches leaves in
    let end : Reading (Branch R) Node = record { found = leaves; pending = [] } in
    let here = c.stand w (subst (λ ws. Contains ws w) (sym split) (contains_end rest w)) in
    let same : later ≡ rest = t.put_off.behind ∙ ap (λ ws. rest ++ ws) (t.put_off.prompt refl) ∙ append-nil rest in
    let tree_is : tree ≡ t.tree = t.written in
    let below : w.place < length trees =
    omega (arith, place_below bs w.place w.branch here.0, Fit-length rules points trees bs c.fit) in
    let some : 1 ≤ length tree = omega (arith, ap length tree_is, some_node (node_step rules better) w.branch t.tree t.leaves t.accepted) in
    let lengths = sum_by-set (λ (u : List Node). length u) trees w.place tree [] below in
    let one : length (get_or trees w.place []) ≡ 1 = ap length here.1 in
    let few : IsWithin room (length tree) = subst (λ k. IsWithin room k) (add_zero (length tree)) t.few in
    let apart = IsDistinct-IsPermutation same_place (λ u v. flips u.place v.place) (rest ++ w ∷ []) (w ∷ rest)
    (IsPermutation-to_front rest w) (subst (λ ws. IsDistinct same_place ws) split c.distinct) in
    record {
      read = after-kept (node_step rules points) (node_step rules better) keeps [] (root ∷ []) nodes end c.read;
      fit = Fit-set rules better trees bs w.place w.branch tree (Fit-kept rules points better improves trees bs c.fit) here.0
          (t.leaves, subst (λ ns. IsTree (node_step rules better) w.branch ns t.leaves) (sym tree_is) t.accepted);
      stand = λ v held.
          let in_rest = subst (λ ws. Contains ws v) same held in
          let was = c.stand v (subst (λ ws. Contains ws v) (sym split) (contains_more rest w v in_rest)) in
          let other = AllByRecursion-contains (λ (u : Waiting R). eqb w.place u.place ≡ false) rest v
          (IsDistinct-head same_place w rest apart) in_rest in
          (was.0, get_or-set_other trees w.place v.place tree [] (λ e. absurd (two_tests w.place v.place (sym e) other)) ∙ was.1);
      distinct = subst (λ ws. IsDistinct same_place ws) (sym same) (IsDistinct-tail same_place w rest apart);
      closed = closed_on c.closed (closes rules better w.branch room tree rest later t t.closed) same below some;
      count = c.count + length tree - 1;
      sized = omega (arith, c.sized, lengths, one, some, length-set trees w.place tree);
      left = room_kept limit room c.count (length tree) (c.count + length tree - 1) c.left few some (omega (arith, some));
    }
  where
    two_tests : (a b : ℕ) → a ≡ b → eqb a b ≡ false → ⊥
    two_tests a b e f = let g = eq-eqb a b e in cc

    add_zero : (n : ℕ) → n + 0 ≡ n
    add_zero n = omega arith

    at_place : (k : ℕ) → later ≡ rest → w.place < length trees → AllByRecursion IsGrown tree →
        AllByRecursion IsGrown (get_or trees k []) ⊎ IsPlace waiting k → (k ≡ w.place) ⊎ (k ≡ w.place → ⊥) →
        AllByRecursion IsGrown (get_or (set trees w.place tree) k []) ⊎ IsPlace later k
    at_place k same below grown was (inl e) =
        inl (subst (λ ns. AllByRecursion IsGrown ns)
        (sym (ap (λ j. get_or (set trees w.place tree) j []) e ∙ get_or-set_same trees w.place tree [] below)) grown)
    at_place k same below grown (inl a) (inr other) =
        inl (subst (λ ns. AllByRecursion IsGrown ns) (sym (get_or-set_other trees w.place k tree [] other)) a)
    at_place k same below grown (inr p) (inr other) =
        elim (contains_last rest w p.0 (subst (λ ws. Contains ws p.0) split p.1)) [
          | inl held ↦ inr (p.0, subst (λ ws. Contains ws p.0) (sym same) held, p.2)
          | inr last ↦ absurd (other (sym p.2 ∙ ap (λ (v : Waiting R). v.place) last))
        ]

    closed_on : ((k : ℕ) → k < length trees → AllByRecursion IsGrown (get_or trees k []) ⊎ IsPlace waiting k) ⊎ IsUsed room →
        AllByRecursion IsGrown tree ⊎ IsSpent room (length tree) → later ≡ rest → w.place < length trees → 1 ≤ length tree →
        ((k : ℕ) → k < length (set trees w.place tree) →
        AllByRecursion IsGrown (get_or (set trees w.place tree) k []) ⊎ IsPlace later k) ⊎ IsUsed (room_after room (length tree))
    closed_on (inl f) (inl grown) same below some =
        inl (λ k lt. at_place k same below grown (f k (omega (arith, length-set trees w.place tree))) (cases_eq k w.place))
    closed_on c (inr spent) same below some = inr (used_after room (length tree) spent)
    closed_on (inr used) (inl grown) same below some = inr (used_still room (length tree) some used)

-- where no branch waits, the whole is a tree
pub whole_is : {R : Type 0} (rules : RegionRules R) (Proper : R → Type 0) (weight : R → ℕ) (weighs : IsWeight rules Proper weight)
    (shrinks : SplitsShrink rules Proper) (points : List Listed) (root : Branch R) (nodes : List Node)
    (leaves : List (Leaf (Branch R) Node)) (limit room : Option ℕ) (trees : List (List Node)) (waiting : List (Waiting R))
    (whole : List Node) → Completing rules points root nodes leaves limit room trees waiting → waiting ≡ [] → Proper root.region →
    whole ≡ with_trees nodes trees → Completes rules points root limit leaves whole
whole_is {R} rules Proper weight weighs shrinks points root nodes leaves limit room trees waiting whole c none proper is =
    let shrunk = leaves_shrink rules Proper weight weighs shrinks points root nodes leaves c.read proper in
    let old = AllByRecursion-from_contains (IsOld rules Proper weight weighs shrinks points leaves) leaves
    (λ l held. record {
      proper = (AllByRecursion-contains (λ (k : Leaf (Branch R) Node). IsBelow rules Proper weight weighs shrinks points root.region k.branch)
          leaves l shrunk held).proper;
      held = held;
    }) in
    let p = places rules Proper weight weighs shrinks points leaves nodes (root ∷ []) [] leaves trees c.read c.fit old in
    let count : c.count ≡ length whole = omega (arith, ap length is, p.sized, c.sized) in
    record {
      leaves = p.leaves;
      accepted = ap (λ ns. after (node_step rules points) [] (root ∷ []) ns) is ∙ p.read;
      few = subst (λ k. IsWithin limit k) count (room_is_within limit room c.count c.left);
      closed = closed_by p.grown c.closed count;
      within = p.within;
    }
  where
    no_place : (k : ℕ) → AllByRecursion IsGrown (get_or trees k []) ⊎ IsPlace waiting k → AllByRecursion IsGrown (get_or trees k [])
    no_place k (inl a) = a
    no_place k (inr q) =
        let held : Contains [] q.0 = subst (λ ws. Contains ws q.0) none q.1 in
        absurd (omega (arith, held.1))

    closed_by : (AllByRecursion (λ t. AllByRecursion IsGrown t) trees → AllByRecursion IsGrown (with_trees nodes trees)) →
        ((k : ℕ) → k < length trees → AllByRecursion IsGrown (get_or trees k []) ⊎ IsPlace waiting k) ⊎ IsUsed room →
        c.count ≡ length whole → AllByRecursion IsGrown whole ⊎ IsSpent limit (length whole)
    closed_by grows (inl f) count =
        inl (subst (λ ns. AllByRecursion IsGrown ns) (sym is)
        (grows (all_at (λ t. AllByRecursion IsGrown t) trees (λ k below. no_place k (f k below)))))
    closed_by grows (inr used) count =
        inr (subst (λ k. IsSpent limit k) count (used_is_spent limit room c.count c.left used))

stands_all : {P : Type 0} (Good : P → Type 0) (bs : List P) (k : ℕ) (b : P) → AllByRecursion Good bs → StandsAt bs k b → Good b
stands_all Good [] k b a at = absurd at
stands_all Good (c ∷ cs) zero b a at = subst (λ q. Good q) at a.0
stands_all Good (c ∷ cs) (suc k) b a at = stands_all Good cs k b a.1 at

if_all : {P : Type 0} (Good : P → Type 0) (p : P) (n : Node) → Good p → AllByRecursion Good (if_open p n)
if_all Good p (Profit v) g = tt
if_all Good p (Time v) g = tt
if_all Good p (Count c) g = tt
if_all Good p (Arc i j) g = tt
if_all Good p (Cut price critical) g = tt
if_all Good p Dominated g = tt
if_all Good p (Cutoff k) g = tt
if_all Good p (Stuck reason) g = tt
if_all Good p Left g = (g, tt)

open_all : {P : Type 0} (Good : P → Type 0) (ls : List (Leaf P Node)) → AllByRecursion (λ l. Good l.branch) ls →
    AllByRecursion Good (open_branches ls)
open_all Good [] a = tt
open_all Good (l ∷ ls) a =
    AllByRecursion-append Good (if_open l.branch l.node) (open_branches ls) (if_all Good l.branch l.node a.0) (open_all Good ls a.1)

proper_at : {R : Type 0} (rules : RegionRules R) (Proper : R → Type 0) (weight : R → ℕ) (weighs : IsWeight rules Proper weight)
    (shrinks : SplitsShrink rules Proper) (points : List Listed) (top : R) (b : Branch R) (ls : List (Leaf (Branch R) Node)) (k : ℕ) →
    AllByRecursion (λ l. IsBelow rules Proper weight weighs shrinks points top l.branch) ls →
    StandsAt (open_branches ls) k b → Proper b.region
proper_at {R} rules Proper weight weighs shrinks points top b ls k all at =
    stands_all (λ (q : Branch R). Proper q.region) (open_branches ls) k b
    (open_all (λ (q : Branch R). Proper q.region) ls
    (AllByRecursion-weaker (λ (l : Leaf (Branch R) Node). IsBelow rules Proper weight weighs shrinks points top l.branch)
    (λ (l : Leaf (Branch R) Node). Proper l.branch.region) (λ l below. below.proper) ls all))
    at

-- the next branch that waits is proper
pub next_is_proper : {R : Type 0} (rules : RegionRules R) (Proper : R → Type 0) (weight : R → ℕ) (weighs : IsWeight rules Proper weight)
    (shrinks : SplitsShrink rules Proper) (points : List Listed) (root : Branch R) (nodes : List Node)
    (leaves : List (Leaf (Branch R) Node)) (limit room : Option ℕ) (trees : List (List Node)) (waiting rest : List (Waiting R))
    (w : Waiting R) → Completing rules points root nodes leaves limit room trees waiting → waiting ≡ rest ++ w ∷ [] →
    Proper root.region → Proper w.branch.region
next_is_proper {R} rules Proper weight weighs shrinks points root nodes leaves limit room trees waiting rest w c split proper =
    proper_at rules Proper weight weighs shrinks points root.region w.branch leaves w.place
    (leaves_shrink rules Proper weight weighs shrinks points root nodes leaves c.read proper)
    (c.stand w (subst (λ ws. Contains ws w) (sym split) (contains_end rest w))).0

-- the next branch that waits has its place
pub next_place : {R : Type 0} (rules : RegionRules R) (points : List Listed) (root : Branch R) (nodes : List Node)
    (leaves : List (Leaf (Branch R) Node)) (limit room : Option ℕ) (trees : List (List Node)) (waiting rest : List (Waiting R))
    (w : Waiting R) → Completing rules points root nodes leaves limit room trees waiting → waiting ≡ rest ++ w ∷ [] →
    w.place < length trees
next_place rules points root nodes leaves limit room trees waiting rest w c split =
    omega (
      arith,
      place_below (open_branches leaves) w.place w.branch (c.stand w (subst (λ ws. Contains ws w) (sym split) (contains_end rest w))).0,
      Fit-length rules points trees (open_branches leaves) c.fit,
    )
