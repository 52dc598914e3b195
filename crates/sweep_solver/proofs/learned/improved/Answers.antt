use Rattle.std.proofs.Common.{sym, ◌∙◌}
use Rattle.front_archive.proofs.Valued.{valued_plan}
use Rattle.sweep_solver.proofs.learned.improved.Goals as goal

pub improve_plan-requires : goal.improve_plan-requires
improve_plan-requires c =
    valued_plan c.args.regions.now.inst.now c.in_ok-copy.copy c.in-Ok.field-0 (sym c.plan_value.ensures ∙ c.in-Ok.is)
