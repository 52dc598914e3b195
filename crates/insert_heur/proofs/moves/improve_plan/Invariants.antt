use Rattle.std.proofs.Common.{◌≤◌}
use Rattle.orienteering.specs.Tour.{IsPlan, plan_time}
use Rattle.insert_heur.specs.Improvement.{SameCalls}
use Rattle.insert_heur.proofs.moves.improve_plan.Given as goal

abbrev pub invariant-loop-swept : goal.invariant-loop-swept
invariant-loop-swept l = record {
  valid : IsPlan l.inst l.best;
  same_calls : SameCalls l.fn.plan l.best;
  no_dearer : plan_time l.inst l.best ≤ plan_time l.inst l.fn.plan;
}

abbrev pub decreases-loop-swept : goal.decreases-loop-swept
decreases-loop-swept l = plan_time l.inst l.best
