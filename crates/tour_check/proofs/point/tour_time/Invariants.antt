use Rattle.std.proofs.Common.{◌≡◌, ◌+◌, ◌*◌, ◌≤◌, drop}
use Rattle.orienteering.specs.Instance.{end_place}
use Rattle.orienteering.specs.Limits.{longest_arc, most_score}
use Rattle.orienteering.specs.Tour.{stops, travel_along, tour_time}
use Rattle.tour_check.proofs.point.tour_time.Given as goal

abbrev pub invariant-loop-next : goal.invariant-loop-next
invariant-loop-next l = record {
  place : l.place ≤ end_place l.inst;
  value : tour_time l.inst l.tour ≡ l.time + travel_along l.inst l.place (stops l.inst (drop l.next-index l.tour));
  limit : l.time ≤ longest_arc * l.next-index;
}
