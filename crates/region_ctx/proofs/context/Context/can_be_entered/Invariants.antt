use Rattle.std.proofs.Common.{◌≡◌, ℕ, ◌<◌, false}
use Rattle.orienteering.specs.Region.{is_open}
use Rattle.region_ctx.proofs.context.Context.can_be_entered.Given as goal

abbrev pub invariant-loop-i : goal.invariant-loop-i
invariant-loop-i l = (k : ℕ) → k < l.i → is_open l.self k l.call ≡ false
