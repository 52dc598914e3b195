-- What a growth of a tree at an open node keeps, and what its parts promise.
use Rattle.std.specs.Prelude.{◌≡◌, ℕ, ◌+◌, ◌-◌, ◌≤◌, ◌<◌, ◌⊎◌, Bool, true, false, List, [], ◌∷◌, ◌++◌, length, reverse, ℤ, MatchOption, if◌then◌else◌}
use Rattle.std.specs.List.{AllByRecursion, Contains}
use Rattle.std.specs.declared.option.Option.{Option}
use Rattle.std.specs.declared.option.Option.TheVariants.{None, Some}
use Rattle.orienteering.specs.Instance.{Problem}
use Rattle.orienteering.specs.Tour.{IsPlan}
use Rattle.orienteering.specs.Frontier.{point_of, IsCovered, IsReached, AllRise}
use Rattle.orienteering.specs.Preorder.{Leaf}
use Rattle.orienteering.specs.declared.Step.{Step}
use Rattle.orienteering.specs.declared.Step.TheVariants.{Refused, Ends, Child, Children}
use Rattle.orienteering.specs.declared.Box2.{Box2}
use Rattle.orienteering.specs.declared.Listed.{Listed}
use Rattle.orienteering.specs.RegionRules.{RegionRules}
use Rattle.orienteering.specs.Replay.{Replay, too_many_labels, bounds}
use Rattle.std.specs.declared.result.Result.TheVariants.{Ok}
use Rattle.orienteering.specs.Decision.{node_step, read_nodes, Branch}
use Rattle.orienteering.specs.declared.Node.{Node}
use Rattle.orienteering.specs.declared.Node.TheVariants.{Profit, Time, Count, Arc, Cut, Left}
use Rattle.orienteering.specs.declared.Split.{Split}
use Rattle.orienteering.specs.declared.Split.TheVariants.{Profit as ByProfit, Time as ByTime, Count as ByCount, Arc as ByArc}
use Rattle.growth.specs.Reading.{IsTree}
use Rattle.growth.specs.declared.world.Resort.{Resort}
use Rattle.growth.specs.declared.world.Resort.TheVariants.{Halves, Empty, Realised}
use Rattle.growth.specs.declared.world.Proposal.{Proposal}
use Rattle.growth.specs.declared.world.Proposal.TheVariants.{Plain, Replayed, Later}
use Rattle.growth.specs.declared.waiting.Waiting.{Waiting}

-- the list has plans that reach its points, and both numbers of its points rise
pub record IsArchive (p : Problem) (points : List Listed) : Type 0 where
  pub reached : AllByRecursion (IsReached p) points
  pub rising : AllRise points

-- each point of the first list is weakly dominated by one of the second
pub record Improves (points better : List Listed) : Type 0 where
  pub covered : AllByRecursion (λ l. IsCovered l.point better) points

-- a way to go on with every region: a split that makes progress, a reason for which it is stuck, or a plan whose point
-- weakly dominates its tight box
abbrev pub IsResort : {R : Type 0} → RegionRules R → Problem → R → Resort → Type 0
IsResort rules p r (Halves s) = (parts : _ × _) × (rules.split r s ≡ Some parts)
IsResort rules p r (Empty reason) = rules.is_stuck r reason ≡ true
IsResort rules p r (Realised plan) =
    IsPlan p plan
    × ((b : Box2) → rules.tight r ≡ Some b → (b.p_hi ≤ (point_of p plan).profit) × ((point_of p plan).time ≤ b.t_lo))

-- a proposed cut is one that the rule would replay, with the bound that the replay gives
abbrev pub IsReplayed : {R : Type 0} → RegionRules R → R → Proposal → Type 0
IsReplayed rules r (Plain node) = Unit {0}
IsReplayed rules r (Later miss) = Unit {0}
IsReplayed rules r (Replayed price critical bound) =
    (rules.price_refusal r price ≡ None)
    × (rules.is_critical_set r critical ≡ true)
    × (rules.replay r price critical ≡ bounds bound)

-- the node of a split
abbrev pub split_node : Split → Node
split_node (ByProfit v) = Profit v
split_node (ByTime v) = Time v
split_node (ByCount c) = Count c
split_node (ByArc i j) = Arc i j

-- the node closes its branch or goes on from it
abbrev pub IsGrown : Node → Type 0
IsGrown Left = ⊥
IsGrown n = Unit {0}

abbrev pub IsRefused : {P E : Type 0} → Step P E → Type 0
IsRefused (Refused e) = Unit {0}
IsRefused s = ⊥

-- a node that is judged by the region and the points alone
abbrev pub IsPlain : Node → Type 0
IsPlain (Cut price critical) = ⊥
IsPlain Left = ⊥
IsPlain n = Unit {0}

-- a leaf where the test passes
abbrev pub leaf_step : {P : Type 0} → Bool → Step P (Unit {0})
leaf_step test = if test then Ends else Refused tt

-- the branches below a node
abbrev pub children_of : {P E : Type 0} → Step P E → List P
children_of (Refused e) = []
children_of Ends = []
children_of (Child q) = q ∷ []
children_of (Children q r) = q ∷ r ∷ []

-- the branch, where its node is open
abbrev pub if_open : {P : Type 0} → P → Node → List P
if_open p Left = p ∷ []
if_open p n = []

-- the branches of the open leaves, in their order
abbrev pub open_branches : {P : Type 0} → List (Leaf P Node) → List P
open_branches [] = []
open_branches (l ∷ ls) = if_open l.branch l.node ++ open_branches ls

-- these branches wait, in their order, at the places from this one on
abbrev pub Await : {R : Type 0} → ℕ → List (Waiting R) → List (Branch R) → Type 0
Await place [] [] = Unit {0}
Await place [] (b ∷ bs) = ⊥
Await place (w ∷ ws) [] = ⊥
Await place (w ∷ ws) (b ∷ bs) = (w.place ≡ place) × (w.branch ≡ b) × Await (place + 1) ws bs

-- The branches were put off: they wait behind those that waited before. Where none may wait there are none.
pub record PutsOff {R : Type 0} (may_wait : Bool) (branches : List (Branch R)) (before waiting : List (Waiting R)) : Type 0 where
  pub more : List (Waiting R)
  pub behind : waiting ≡ before ++ more
  pub await : Await (length before) more branches
  pub prompt : may_wait ≡ false → more ≡ []

-- One growth at a branch: an accepted node is written that closes it or goes on from it, and its children are pending. The
-- pending branches stand in a stack, the next one last.
pub record Grows {R : Type 0} (rules : RegionRules R) (points : List Listed) (branch : Branch R)
    (nodes grown : List Node) (stack pending : List (Branch R)) : Type 0 where
  pub node : Node
  pub closes : IsGrown node
  pub accepted : IsRefused (node_step rules points 0 branch node) → ⊥
  pub written : grown ≡ nodes ++ node ∷ []
  pub follow : pending ≡ stack ++ reverse (children_of (node_step rules points 0 branch node))

-- One growth at a branch, which is put off where its node is left open.
pub record Advances {R : Type 0} (may_wait : Bool) (rules : RegionRules R) (points : List Listed) (branch : Branch R)
    (nodes grown : List Node) (stack pending : List (Branch R)) (before waiting : List (Waiting R)) : Type 0 where
  pub node : Node
  pub accepted : IsRefused (node_step rules points 0 branch node) → ⊥
  pub written : grown ≡ nodes ++ node ∷ []
  pub follow : pending ≡ stack ++ reverse (children_of (node_step rules points 0 branch node))
  pub put_off : PutsOff may_wait (if_open branch node) before waiting

-- The node of a tree is written again, and its children are pending.
pub record Copies {R : Type 0} (rules : RegionRules R) (points : List Listed) (branch : Branch R) (node : Node)
    (nodes grown : List Node) (stack pending : List (Branch R)) : Type 0 where
  pub written : grown ≡ nodes ++ node ∷ []
  pub follow : pending ≡ stack ++ reverse (children_of (node_step rules points 0 branch node))

-- the bound that a replay gives, if it gives one
abbrev pub bound_of : Replay → Option ℤ
bound_of too_many_labels = None
bound_of (bounds b) = Some b

-- the nodes are a tree that the rule accepts
abbrev pub IsAccepted : {R : Type 0} → RegionRules R → List Listed → Branch R → List Node → Type 0
IsAccepted {R} rules points branch nodes = (leaves : List (Leaf (Branch R) Node)) × IsTree (node_step rules points) branch nodes leaves

-- so many nodes leave room for a growth
abbrev pub HasRoom : Option ℕ → ℕ → Type 0
HasRoom limit count = MatchOption limit (Unit {0}) (λ n. count < n)

-- so many nodes use the budget up
abbrev pub IsSpent : Option ℕ → ℕ → Type 0
IsSpent limit count = MatchOption limit ⊥ (λ n. n ≤ count)

-- the next pending branch is taken where the budget is not spent
pub record IsNext {R : Type 0} (limit : Option ℕ) (count : ℕ) (stack rest : List (Branch R)) (next : Option (Branch R)) :
    Type 0 where
  pub none : next ≡ None → (stack ≡ [] ⊎ IsSpent limit count) × (rest ≡ stack)
  pub some : (branch : Branch R) → next ≡ Some branch → (stack ≡ rest ++ branch ∷ []) × HasRoom limit count

-- so many nodes are at most one more than the budget
abbrev pub IsWithin : Option ℕ → ℕ → Type 0
IsWithin limit count = MatchOption limit (Unit {0}) (λ n. count ≤ n + 1)

-- A tree is written behind the nodes, in the place of an open node, and branches of it are put off: those of its open
-- leaves, where the budget isn't spent.
pub record GrowsTree {R : Type 0} (may_wait : Bool) (rules : RegionRules R) (points : List Listed) (branch : Branch R) (limit : Option ℕ)
    (others : ℕ) (nodes grown : List Node) (before waiting : List (Waiting R)) : Type 0 where
  pub tree : List Node
  pub leaves : List (Leaf (Branch R) Node)
  pub accepted : IsTree (node_step rules points) branch tree leaves
  pub written : grown ≡ nodes ++ tree
  pub few : IsWithin limit (length grown + others)
  pub branches : List (Branch R)
  pub put_off : PutsOff may_wait branches before waiting
  pub closed : (branches ≡ open_branches leaves) ⊎ IsSpent limit (length grown + others)

-- the box lies in the other
pub record LiesWithin (b c : Box2) : Type 0 where
  pub p_low : c.p_lo ≤ b.p_lo
  pub p_high : b.p_hi ≤ c.p_hi
  pub t_low : c.t_lo ≤ b.t_lo
  pub t_high : b.t_hi ≤ c.t_hi

-- the tight box of a region, where it isn't empty, lies in the tight box of the other
abbrev pub Shrinks : {R : Type 0} → RegionRules R → R → R → Type 0
Shrinks rules r s = (b : Box2) → rules.tight s ≡ Some b → (c : Box2) × (rules.tight r ≡ Some c) × LiesWithin b c

-- the parts of a split have no other values than the whole
abbrev pub SplitsShrink : {R : Type 0} → RegionRules R → (R → Type 0) → Type 0
SplitsShrink {R} rules Proper =
    (r : R) (s : Split) (a b : R) → Proper r → rules.split r s ≡ Some (a, b) → Shrinks rules r a × Shrinks rules r b

-- an open leaf's region has no other values than that of an open leaf of the old tree
abbrev pub IsFromOpen : {R : Type 0} → RegionRules R → List (Leaf (Branch R) Node) → Leaf (Branch R) Node → Type 0
IsFromOpen {R} rules old l =
    l.node ≡ Left → (o : Leaf (Branch R) Node) × Contains old o × (o.node ≡ Left) × Shrinks rules o.branch.region l.branch.region

-- The tree was grown at its open nodes, or they were put off: it is accepted under the better points, the branches of its
-- open leaves wait where the budget isn't spent, and what is left lies in what was left.
pub record Regrows {R : Type 0} (rules : RegionRules R) (points : List Listed) (branch : Branch R) (limit : Option ℕ)
    (old : List (Leaf (Branch R) Node)) (grown : List Node) (waiting : List (Waiting R)) : Type 0 where
  pub leaves : List (Leaf (Branch R) Node)
  pub accepted : IsTree (node_step rules points) branch grown leaves
  pub few : IsWithin limit (length grown)
  pub closed : Await 0 waiting (open_branches leaves) ⊎ IsSpent limit (length grown)
  pub within : AllByRecursion (IsFromOpen rules old) leaves

-- the nodes are a tree, and the branches of its open leaves wait
pub record AreAwaited {R : Type 0} (rules : RegionRules R) (Proper : R → Type 0) (points : List Listed) (root : Branch R)
    (nodes : List Node) (leaves : List (Leaf (Branch R) Node)) (waiting : List (Waiting R)) : Type 0 where
  pub proper : Proper root.region
  pub accepted : IsTree (node_step rules points) root nodes leaves
  pub await : Await 0 waiting (open_branches leaves)

-- the nodes, with the trees in the places of the open ones; an open node stays where no tree is left
abbrev pub with_trees : List Node → List (List Node) → List Node
with_trees [] ts = []
with_trees (Left ∷ ns) (t ∷ ts) = t ++ with_trees ns ts
with_trees (n ∷ ns) ts = n ∷ with_trees ns ts

-- the budget of a tree that takes the place of one open node, in a tree of so many nodes
abbrev pub IsRoom : Option ℕ → Option ℕ → ℕ → Type 0
IsRoom None None count = Unit {0}
IsRoom None (Some more) count = ⊥
IsRoom (Some n) None count = ⊥
IsRoom (Some n) (Some more) count = more + count ≡ n + 1

-- the same budget once one open node has given way to so many nodes
abbrev pub room_after : Option ℕ → ℕ → Option ℕ
room_after None count = None
room_after (Some more) count = Some (more + 1 - count)

-- The tree was grown at its open nodes: it is accepted under the better points, nodes are left open only where the budget
-- is spent, and what is left lies in what was left.
pub record Completes {R : Type 0} (rules : RegionRules R) (points : List Listed) (branch : Branch R) (limit : Option ℕ)
    (old : List (Leaf (Branch R) Node)) (grown : List Node) : Type 0 where
  pub leaves : List (Leaf (Branch R) Node)
  pub accepted : IsTree (node_step rules points) branch grown leaves
  pub few : IsWithin limit (length grown)
  pub closed : AllByRecursion IsGrown grown ⊎ IsSpent limit (length grown)
  pub within : AllByRecursion (IsFromOpen rules old) leaves

-- The checker reads the grown tree under the better points. It is the old tree with trees in the places of open
-- nodes. Nodes are left open only where the budget is spent, and what is left lies in what was left.
pub record Continues {R : Type 0} (rules : RegionRules R) (points : List Listed) (root : R) (limit : Option ℕ)
    (nodes : List Node) (old : List (Leaf (Branch R) Node)) (grown : List Node) : Type 0 where
  pub kept : (trees : List (List Node)) × (grown ≡ with_trees nodes trees)
  pub leaves : List (Leaf (Branch R) Node)
  pub accepted : read_nodes rules points root grown ≡ Ok leaves
  pub few : IsWithin limit (length grown)
  pub closed : AllByRecursion IsGrown grown ⊎ IsSpent limit (length grown)
  pub within : AllByRecursion (IsFromOpen rules old) leaves
