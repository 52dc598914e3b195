use Rattle.std.proofs.Common.{take}
use Rattle.branch_pick.specs.Candidates.{IsBestListed}
use Rattle.branch_pick.proofs.best_listed.Given as goal

abbrev pub invariant-loop-place : goal.invariant-loop-place
invariant-loop-place l = IsBestListed l.ctx (take l.place l.shares) l.best
