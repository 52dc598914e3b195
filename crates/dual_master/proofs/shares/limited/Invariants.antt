use Rattle.dual_master.specs.Shares.{IsBalanced}
use Rattle.dual_master.proofs.shares.limited.Given as goal

abbrev pub invariant-loop-place : goal.invariant-loop-place
invariant-loop-place l = IsBalanced l.inst l.ctx l.pool l.place l.room.items l.left l.shares.items
