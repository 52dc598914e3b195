use Rattle.std.proofs.Common.{◌≡◌, ◌+◌, ◌≤◌, take, drop}
use Rattle.orienteering.specs.Instance.{end_place}
use Rattle.orienteering.specs.Limits.{latest}
use Rattle.orienteering.specs.PlanCheck.{tour_refusal, rest_refusal}
use Rattle.tour_check.specs.Seen.{HasSame}
use Rattle.tour_check.proofs.refusal.tour_refusal.Given as goal

abbrev pub invariant-loop-next : goal.invariant-loop-next
invariant-loop-next l = record {
  place : l.place ≤ end_place l.inst;
  clock : l.clock ≤ latest;
  held : HasSame l.seen (take l.next-index l.tour);
  same : tour_refusal l.inst l.tour
      ≡ rest_refusal l.inst (take l.next-index l.tour) l.place l.clock (drop l.next-index l.tour);
}
