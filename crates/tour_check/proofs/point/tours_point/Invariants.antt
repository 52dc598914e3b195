use Rattle.std.proofs.Common.{◌≡◌, ◌+◌, ◌*◌, ◌≤◌, length, take}
use Rattle.std.specs.List.{concat}
use Rattle.orienteering.specs.Limits.{longest_arc, most_score}
use Rattle.orienteering.specs.Tour.{plan_profit, plan_time}
use Rattle.tour_check.proofs.point.tours_point.Given as goal

abbrev pub invariant-loop-tour : goal.invariant-loop-tour
invariant-loop-tour l = record {
  profit : l.profit ≡ plan_profit l.inst (take l.tour-index l.tours);
  time : l.time ≡ plan_time l.inst (take l.tour-index l.tours);
  profit_limit : l.profit ≤ most_score * length (concat (take l.tour-index l.tours));
  time_limit : l.time ≤ longest_arc * (length (concat (take l.tour-index l.tours)) + l.tour-index);
}
