use Rattle.dual_master.specs.Search.{AreLaidOut}
use Rattle.dual_master.proofs.open_tours.laid_out.Given as goal

abbrev pub invariant-loop-place : goal.invariant-loop-place
invariant-loop-place l = AreLaidOut l.ctx.calls l.tours
