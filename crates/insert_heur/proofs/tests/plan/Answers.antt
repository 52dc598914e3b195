use Rattle.std.proofs.Common.{◌∙◌, sym}
use Rattle.insert_heur.proofs.Refused.{valued}
use Rattle.insert_heur.proofs.tests.plan.Goals as goal

pub returns-in-Ok : goal.returns-in-Ok
returns-in-Ok c =
    (valued c.args.inst.now c.from_tours-plan.result c.in-Ok.field-0 (sym c.plan_value.ensures ∙ c.in-Ok.is)).0
