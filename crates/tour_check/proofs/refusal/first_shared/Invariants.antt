use Rattle.std.proofs.Common.{◌≡◌, ℕ, List, drop}
use Rattle.orienteering.specs.PlanCheck.{first_shared}
use Rattle.tour_check.specs.Seen.{HasSame}
use Rattle.tour_check.proofs.refusal.first_shared.Given as goal

abbrev pub invariant-loop-next : goal.invariant-loop-next
invariant-loop-next l = (seen : List ℕ) → HasSame l.earlier seen → first_shared seen l.tour ≡ first_shared seen (drop l.next-index l.tour)
