use Rattle.std.proofs.Common.{◌≡◌, ℕ, ◌<◌, ◌≤◌, false}
use Rattle.orienteering.specs.Region.{is_open}
use Rattle.region_ctx.proofs.context.Context.can_be_left.Given as goal

abbrev pub invariant-loop-j : goal.invariant-loop-j
invariant-loop-j l = (k : ℕ) → 1 ≤ k → k < l.j → is_open l.self l.call k ≡ false
