use Rattle.std.proofs.Common.{◌≡◌, ℕ, ◌<◌, false}
use Rattle.branch_pick.specs.Candidates.{is_unlisted}
use Rattle.branch_pick.proofs.first_target.Given as goal

abbrev pub invariant-loop-to : goal.invariant-loop-to
invariant-loop-to l = (place : ℕ) → place < l.to → is_unlisted l.ctx l.shares l.from place ≡ false
