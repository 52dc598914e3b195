use Rattle.std.proofs.Common.{take}
use Rattle.label_engine.specs.Greatest.{IsBest}
use Rattle.label_engine.proofs.replay.best_closed_small.Given as goal

abbrev pub invariant-loop-place : goal.invariant-loop-place
invariant-loop-place l = IsBest l.cut (take l.place l.labels) l.best
