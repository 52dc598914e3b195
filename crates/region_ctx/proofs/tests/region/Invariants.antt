use Rattle.std.proofs.Common.{◌≡◌}
use Rattle.orienteering.specs.Instance.{calls}
use Rattle.region_ctx.proofs.tests.region.Given as goal

abbrev pub invariant-loop-limit : goal.invariant-loop-limit
invariant-loop-limit l = l.context.calls ≡ calls l.inst
