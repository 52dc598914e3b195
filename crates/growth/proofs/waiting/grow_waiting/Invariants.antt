use Rattle.std.proofs.Common.{List, length, map}
use Rattle.orienteering.specs.Preorder.{Leaf}
use Rattle.orienteering.specs.Decision.{Branch}
use Rattle.orienteering.specs.declared.Node.{Node}
use Rattle.growth.specs.Growth.{IsArchive, Improves, AreAwaited}
use Rattle.growth.proofs.Completing.{Completing}
use Rattle.growth.proofs.waiting.grow_waiting.Given as goal

abbrev pub invariant-loop-next : goal.invariant-loop-next
invariant-loop-next g l = record {
  completing : (root : Branch g.row.W-Region.Denot) (leaves : List (Leaf (Branch g.row.W-Region.Denot) Node)) →
      AreAwaited (g.W.World.rules l.world) (g.W.World.proper l.world) l.initial.archive root l.fn.nodes.items leaves l.fn.waiting.items →
      Completing (g.W.World.rules l.world) l.archive root l.fn.nodes.items leaves l.fn.limit l.room (map (λ t. t.items) l.trees.items)
      l.waiting.items;
  archive : IsArchive (g.W.World.problem l.world) l.archive;
  improved : Improves l.initial.archive l.archive;
}

abbrev pub decreases-loop-next : goal.decreases-loop-next
decreases-loop-next g l = length l.waiting.items
