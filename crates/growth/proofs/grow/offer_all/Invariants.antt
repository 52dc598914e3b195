use Rattle.growth.specs.Growth.{IsArchive, Improves}
use Rattle.growth.proofs.grow.offer_all.Given as goal

abbrev pub invariant-loop-plan : goal.invariant-loop-plan
invariant-loop-plan g l = record {
  can_next : (goal.iterator-loop-plan g).can_next l.plan-iterator;
  is_finite : (goal.iterator-loop-plan g).is_finite l.plan-iterator;
  archive : IsArchive (g.W.World.problem l.world) l.archive;
  improved : Improves l.initial.archive l.archive;
}
