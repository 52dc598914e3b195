use Rattle.std.proofs.Common.{ℕ, ◌<◌}
use Rattle.region_ctx.specs.Walks.{StartsLate}
use Rattle.region_ctx.proofs.context.Context.is_late.Given as goal

abbrev pub invariant-loop-call : goal.invariant-loop-call
invariant-loop-call l = (k : ℕ) → k < l.call → StartsLate l.inst l.self k → ⊥
