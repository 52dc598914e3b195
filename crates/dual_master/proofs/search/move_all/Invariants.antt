use Rattle.dual_master.specs.Search.{AreSought}
use Rattle.dual_master.proofs.search.move_all.Given as goal

abbrev pub invariant-loop-call : goal.invariant-loop-call
invariant-loop-call l = AreSought l.ctx.calls l.trial.items
