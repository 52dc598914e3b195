use Rattle.std.proofs.Common.{List, length, reverse}
use Rattle.orienteering.specs.Preorder.{Leaf}
use Rattle.orienteering.specs.Decision.{node_step, Branch}
use Rattle.orienteering.specs.declared.Node.{Node}
use Rattle.growth.specs.Reading.{IsTree}
use Rattle.growth.specs.Growth.{IsArchive, Improves}
use Rattle.growth.proofs.Keeping.{IsKeeping}
use Rattle.growth.proofs.Regrowing.{Regrowing}
use Rattle.growth.proofs.regrow.grow_open_nodes.Given as goal

abbrev pub invariant-loop-node : goal.invariant-loop-node
invariant-loop-node g l = record {
  regrowing : (old : List (Leaf (Branch g.row.W-Region.Denot) Node)) →
      IsTree (node_step (g.W.World.rules l.world) l.initial.archive) l.fn.root (reverse l.initial.behind.items) old →
      Regrowing (g.W.World.rules l.world) (g.W.World.proper l.world) l.archive l.fn.root l.limit old
      l.nodes.items l.behind.items l.pending.items l.waiting.items;
  archive : IsArchive (g.W.World.problem l.world) l.archive;
  improved : Improves l.initial.archive l.archive;
  kept : IsKeeping (reverse l.initial.behind.items) l.behind.items l.nodes.items;
}

abbrev pub decreases-loop-node : goal.decreases-loop-node
decreases-loop-node g l = length l.behind.items
