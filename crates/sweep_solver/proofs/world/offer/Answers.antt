use Rattle.std.proofs.Common.{sym, subst, ◌∙◌}
use Rattle.front_archive.proofs.Valued.{valued_plan}
use Rattle.growth.specs.Growth.{Improves}
use Rattle.growth.proofs.Archives.{improves_same}
use Rattle.sweep_solver.proofs.Offered.{improved, not_refused}
use Rattle.sweep_solver.proofs.world.offer.Goals as goal

pub insert-requires : goal.insert-requires
insert-requires c = valued_plan c.args.inst.now c.args.plan c.in-Ok.field-0 (sym c.plan_value.ensures ∙ c.in-Ok.is)

pub returns-in_err-insert-in-Ok-clause-improved : goal.returns-in_err-insert-in-Ok-clause-improved
returns-in_err-insert-in-Ok-clause-improved c =
    subst (Improves c.args.archive.now) (sym c.in_err-insert-in-Ok.ensures.err) (improves_same c.args.archive.now)

pub returns-in_ok-insert-in-Ok-clause-improved : goal.returns-in_ok-insert-in-Ok-clause-improved
returns-in_ok-insert-in-Ok-clause-improved c =
    improved c.args.inst.now c.args.plan c.args.archive.now c.insert.new.self c.in_ok-insert-in-Ok.ensures.best

pub returns-in-Err-clause-improved : goal.returns-in-Err-clause-improved
returns-in-Err-clause-improved c = improves_same c.args.archive.now

pub returns-in-Err-clause-held : goal.returns-in-Err-clause-held
returns-in-Err-clause-held c is_plan =
    absurd (not_refused c.args.inst.now c.args.plan c.in-Err.field-0 is_plan (sym c.plan_value.ensures ∙ c.in-Err.is))
