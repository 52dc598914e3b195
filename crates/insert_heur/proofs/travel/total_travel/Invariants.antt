use Rattle.std.proofs.Common.{◌≡◌, ◌*◌, ◌≤◌, take}
use Rattle.orienteering.specs.Tour.{plan_time}
use Rattle.insert_heur.specs.Walk.{farthest}
use Rattle.insert_heur.proofs.travel.total_travel.Given as goal

abbrev pub invariant-loop-tour : goal.invariant-loop-tour
invariant-loop-tour l = record {
  value : l.travelled ≡ plan_time l.inst (take l.tour-index l.tours);
  limit : l.travelled ≤ farthest * l.tour-index;
}
