use Rattle.std.proofs.Common.{◌≡◌, ◌++◌, length, map, reverse}
use Rattle.growth.specs.Growth.{with_trees}
use Rattle.growth.proofs.waiting.put_in_places.Given as goal

abbrev pub invariant-loop-node : goal.invariant-loop-node
invariant-loop-node l =
    l.whole.items ++ with_trees (reverse l.behind.items) (map (λ t. t.items) (reverse l.trees.items))
    ≡ with_trees l.fn.nodes.items (map (λ t. t.items) l.fn.trees.items)

abbrev pub decreases-loop-node : goal.decreases-loop-node
decreases-loop-node l = length l.behind.items
