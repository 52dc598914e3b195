use Rattle.std.proofs.Common.{◌≡◌, None, sym, ap, ◌∙◌}
use Rattle.orienteering.specs.PlanCheck.{tour_refusal}
use Rattle.orienteering.proofs.PlanCheck.{tour_right}
use Rattle.tour_check.proofs.point.tour_value.Goals as goal

pub tour_point-requires : goal.tour_point-requires
tour_point-requires c =
    tour_right c.args.inst.now c.args.tour.now
    (ap (tour_refusal c.args.inst.now) (sym c.calls.ensures) ∙ sym c.tour_refusal.ensures ∙ c.in-None.is)
