use Rattle.std.proofs.Common.{◌≡◌, ℕ, ◌<◌, false}
use Rattle.branch_pick.specs.Candidates.{is_unlisted}
use Rattle.branch_pick.proofs.best_unlisted.Given as goal

abbrev pub invariant-loop-from : goal.invariant-loop-from
invariant-loop-from l = (place to : ℕ) → place < l.from → is_unlisted l.ctx l.shares place to ≡ false
