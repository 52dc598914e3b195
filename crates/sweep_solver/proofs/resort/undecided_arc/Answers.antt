use Rattle.std.proofs.Common.{arith}
use Rattle.sweep_solver.proofs.Undecided.{none_at_all}
use Rattle.sweep_solver.proofs.resort.undecided_arc.Goals as goal

pub returns-clause-none : goal.returns-clause-none
returns-clause-none c = none_at_all c.args.ctx.now (λ k below. c.loop-from.invariant k (omega arith))
