use Rattle.std.proofs.Common.{◌≡◌, ℕ, ◌<◌, ◌≤◌, true, false}
use Rattle.orienteering.specs.Tour.{IsPlan, plan_time}
use Rattle.insert_heur.specs.Improvement.{SameCalls, IsSettledFor}
use Rattle.insert_heur.proofs.moves.sweep.Given as goal

abbrev pub invariant-loop-call : goal.invariant-loop-call
invariant-loop-call l = record {
  valid : IsPlan l.inst l.best;
  same_calls : SameCalls l.fn.plan l.best;
  time : l.time ≡ plan_time l.inst l.best;
  no_dearer : plan_time l.inst l.best ≤ plan_time l.inst l.fn.plan;
  less : l.better ≡ true → plan_time l.inst l.best < plan_time l.inst l.fn.plan;
  settled : l.better ≡ false → (k : ℕ) → 1 ≤ k → k < l.call → IsSettledFor l.inst l.best k;
}
