use Rattle.std.proofs.Common.{List, length}
use Rattle.orienteering.specs.declared.Listed.{Listed}
use Rattle.growth.specs.Growth.{IsArchive, Improves}
use Rattle.sweep_solver.specs.Solved.{CoversPlans}
use Rattle.sweep_solver.proofs.search.archive_of.Given as goal

abbrev pub invariant-loop-plan : goal.invariant-loop-plan
invariant-loop-plan l = record {
  archive : IsArchive l.inst l.archive;
  covered : (points : List Listed) → Improves l.archive points → CoversPlans l.inst l.left.items points →
      CoversPlans l.inst l.fn.starts.items points;
}

abbrev pub decreases-loop-plan : goal.decreases-loop-plan
decreases-loop-plan l = length l.left.items
