use Rattle.std.proofs.Common.{◌≡◌, ◌+◌, take, drop, []}
use Rattle.std.specs.List.{concat}
use Rattle.orienteering.specs.PlanCheck.{tours_refusal}
use Rattle.tour_check.specs.Seen.{HasSame}
use Rattle.tour_check.proofs.refusal.plan_refusal.Given as goal

abbrev pub invariant-loop-i : goal.invariant-loop-i
invariant-loop-i l = record {
  held : HasSame l.earlier (concat (take l.i l.plan));
  same : tours_refusal l.inst [] 1 l.plan
      ≡ tours_refusal l.inst (concat (take l.i l.plan)) (l.i + 1) (drop l.i l.plan);
}
