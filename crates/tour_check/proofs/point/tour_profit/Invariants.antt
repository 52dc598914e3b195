use Rattle.std.proofs.Common.{◌≡◌, ◌*◌, ◌≤◌, take}
use Rattle.orienteering.specs.Limits.{longest_arc, most_score}
use Rattle.orienteering.specs.Tour.{tour_profit}
use Rattle.tour_check.proofs.point.tour_profit.Given as goal

abbrev pub invariant-loop-next : goal.invariant-loop-next
invariant-loop-next l = record {
  value : l.profit ≡ tour_profit l.inst (take l.next-index l.tour);
  limit : l.profit ≤ most_score * l.next-index;
}
