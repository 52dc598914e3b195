use Rattle.std.specs.List.{sum_by}
use Rattle.growth.specs.Growth.{IsArchive, Improves}
use Rattle.growth.proofs.Growing.{Growing, room_of}
use Rattle.growth.proofs.grow.grow_tree.Given as goal

abbrev pub invariant-loop-next : goal.invariant-loop-next
invariant-loop-next g l = record {
  growing : Growing l.may_wait (g.W.World.rules l.world) (g.W.World.proper l.world) l.archive l.fn.branch l.limit l.others
      l.initial.nodes.items l.nodes.items l.pending.items l.initial.waiting.items l.waiting.items;
  archive : IsArchive (g.W.World.problem l.world) l.archive;
  improved : Improves l.initial.archive l.archive;
}

abbrev pub decreases-loop-next : goal.decreases-loop-next
decreases-loop-next g l = sum_by (λ p. room_of (g.W.World.weight l.world) p) l.pending.items
