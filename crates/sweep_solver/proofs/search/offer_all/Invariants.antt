use Rattle.std.proofs.Common.{◌≡◌, List, length}
use Rattle.std.specs.Vec.Iter.{into_iter_items, into_iter_len}
use Rattle.orienteering.specs.declared.Listed.{Listed}
use Rattle.growth.specs.Growth.{IsArchive, Improves}
use Rattle.sweep_solver.specs.Solved.{CoversPlans}
use Rattle.sweep_solver.proofs.search.offer_all.Given as goal

abbrev pub invariant-loop-plan : goal.invariant-loop-plan
invariant-loop-plan l = record {
  can_next : goal.iterator-loop-plan.can_next l.plan-iterator;
  is_finite : goal.iterator-loop-plan.is_finite l.plan-iterator;
  archive : IsArchive l.inst l.archive;
  improved : Improves l.initial.archive l.archive;
  covered : (points : List Listed) → Improves l.archive points → CoversPlans l.inst (into_iter_items l.plan-iterator) points →
      CoversPlans l.inst (into_iter_items l.initial.plan-iterator) points;
  count : into_iter_len l.plan-iterator ≡ length (into_iter_items l.plan-iterator);
}
