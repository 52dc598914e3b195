use Rattle.std.proofs.Common.{◌≡◌, ◌++◌, replicate}
use Rattle.orienteering.specs.declared.Node.TheVariants.{Left}
use Rattle.growth.proofs.grow.leave_open.Given as goal

abbrev pub invariant-loop-written : goal.invariant-loop-written
invariant-loop-written l = l.nodes.items ≡ l.initial.nodes.items ++ replicate l.written Left
