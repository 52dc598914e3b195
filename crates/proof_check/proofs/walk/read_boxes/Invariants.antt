use Rattle.proof_check.proofs.Reading.{Walked}
use Rattle.proof_check.proofs.walk.read_boxes.Given as goal

abbrev pub invariant-loop-place : goal.invariant-loop-place
invariant-loop-place l = Walked l.judge.inst.now l.judge.labels l.judge.points.now l.nodes l.boxes.keys l.pending.branches l.place
