use Rattle.orienteering.specs.Region.{IsProper}
use Rattle.label_engine.proofs.tests.region.Given as goal

abbrev pub invariant-loop-split : goal.invariant-loop-split
invariant-loop-split l = IsProper l.inst l.ctx
