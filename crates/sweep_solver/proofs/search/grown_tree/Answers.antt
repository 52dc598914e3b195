use Rattle.growth.proofs.Archives.{improves_then}
use Rattle.sweep_solver.proofs.Trees.{open_is_tree}
use Rattle.sweep_solver.proofs.search.grown_tree.Goals as goal

pub grow-requires-clause-tree : goal.grow-requires-clause-tree
grow-requires-clause-tree c =
    open_is_tree c.args.regions.now.inst.now c.args.regions.now.labels c.begun.new.archive _ c.in_ok-tree.tree.items
    c.in_ok-tree.ensures

pub returns-clause-improved : goal.returns-clause-improved
returns-clause-improved c = improves_then _ _ _ c.begun.ensures.improved c.grow.ensures.improved
