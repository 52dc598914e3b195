use Rattle.sweep_solver.proofs.Solving.{solved_if_ok}
use Rattle.sweep_solver.proofs.options.solve.Goals as goal

pub returns : goal.returns
returns g c =
    solved_if_ok c.args.inst.now c.args.options.now.labels c.args.options.now.nodes c.args.options.now.seed c.in_ok-starts.starts.items
    c.in_ok-starts.ensures c.solve_from.result c.solve_from.ensures.accepted c.solve_from.ensures.budget c.solve_from.ensures.starts
