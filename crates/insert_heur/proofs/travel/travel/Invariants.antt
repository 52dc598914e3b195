use Rattle.std.proofs.Common.{◌≡◌, ◌+◌, ◌*◌, ◌≤◌, drop}
use Rattle.orienteering.specs.Instance.{end_place}
use Rattle.orienteering.specs.Limits.{longest_arc}
use Rattle.orienteering.specs.Tour.{stops, travel_along, tour_time}
use Rattle.insert_heur.proofs.travel.travel.Given as goal

abbrev pub invariant-loop-call : goal.invariant-loop-call
invariant-loop-call l = record {
  place : l.place ≤ end_place l.inst;
  value : tour_time l.inst l.tour ≡ l.travelled + travel_along l.inst l.place (stops l.inst (drop l.call-index l.tour));
  limit : l.travelled ≤ longest_arc * l.call-index;
}
