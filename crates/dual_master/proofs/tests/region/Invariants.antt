use Rattle.orienteering.specs.Region.{IsProper}
use Rattle.dual_master.proofs.tests.region.Given as goal

abbrev pub invariant-loop-i : goal.invariant-loop-i
invariant-loop-i l = IsProper l.inst l.ctx
