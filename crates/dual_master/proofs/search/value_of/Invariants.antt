use Rattle.std.proofs.Common.{◌+◌, ◌-◌, ◌*◌}
use Rattle.price_bound.specs.Magnitude.{IsWithin}
use Rattle.dual_master.specs.Search.{most_worth}
use Rattle.dual_master.proofs.search.value_of.Given as goal

abbrev pub invariant-loop-place : goal.invariant-loop-place
invariant-loop-place l = IsWithin ((l.place - l.fn.span.begin + 1) * most_worth) l.value
