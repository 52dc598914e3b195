use Rattle.std.proofs.Common.{◌≡◌, drop}
use Rattle.orienteering.specs.Replay.{rises_above}
use Rattle.proof_check.proofs.critical.rises.Given as goal

abbrev pub invariant-loop-call : goal.invariant-loop-call
invariant-loop-call l = rises_above 0 l.critical ≡ rises_above l.before (drop l.call-index l.critical)
