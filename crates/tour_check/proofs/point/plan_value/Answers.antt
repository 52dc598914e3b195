use Rattle.std.proofs.Common.{◌≡◌, None, sym, ap, ◌∙◌}
use Rattle.orienteering.specs.PlanCheck.{plan_refusal}
use Rattle.orienteering.proofs.PlanCheck.{plan_right}
use Rattle.tour_check.proofs.point.plan_value.Goals as goal

pub plan_point-requires : goal.plan_point-requires
plan_point-requires c =
    plan_right c.args.inst.now c.args.plan.now
    (ap (plan_refusal c.args.inst.now) (sym c.tours.ensures) ∙ sym c.plan_refusal.ensures ∙ c.in-None.is)
