use Rattle.std.proofs.Common.{◌≡◌, ℕ, List, take, ◌++◌}
use Rattle.tour_check.specs.Seen.{HasSame}
use Rattle.tour_check.proofs.refusal.hold_tour.Given as goal

abbrev pub invariant-loop-next : goal.invariant-loop-next
invariant-loop-next l = (seen : List ℕ) → HasSame l.fn.earlier seen → HasSame l.earlier (seen ++ take l.next-index l.tour)
