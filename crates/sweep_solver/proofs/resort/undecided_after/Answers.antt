use Rattle.std.proofs.Common.{arith}
use Rattle.sweep_solver.proofs.Undecided.{none_after}
use Rattle.sweep_solver.proofs.resort.undecided_after.Goals as goal

pub returns-clause-none : goal.returns-clause-none
returns-clause-none c =
    none_after c.args.ctx.now c.args.from (λ k low high. c.loop-to.invariant k low (omega arith))
