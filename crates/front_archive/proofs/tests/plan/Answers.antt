use Rattle.std.proofs.Common.{◌∙◌, sym}
use Rattle.front_archive.proofs.Valued.{valued_plan}
use Rattle.front_archive.proofs.tests.plan.Goals as goal

pub returns-in-Ok : goal.returns-in-Ok
returns-in-Ok c =
    valued_plan c.args.inst.now c.from_tours-plan.result c.in-Ok.field-0 (sym c.plan_value.ensures ∙ c.in-Ok.is)
