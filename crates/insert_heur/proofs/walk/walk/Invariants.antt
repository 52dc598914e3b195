use Rattle.std.proofs.Common.{◌≡◌, ◌≤◌, drop}
use Rattle.orienteering.specs.Instance.{end_place}
use Rattle.orienteering.specs.Limits.{latest}
use Rattle.insert_heur.specs.Walk.{walked}
use Rattle.insert_heur.proofs.walk.walk.Given as goal

abbrev pub invariant-loop-call : goal.invariant-loop-call
invariant-loop-call l = record {
  place : l.standing.place ≤ end_place l.inst;
  now : l.standing.clock ≤ latest;
  spent : l.standing.travelled ≤ l.standing.clock;
  same : walked l.inst l.fn.from l.calls ≡ walked l.inst l.standing (drop l.call-index l.calls);
}
