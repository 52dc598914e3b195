use Rattle.std.proofs.Common.{◌∙◌, sym}
use Rattle.pool_cols.proofs.Places.{valued}
use Rattle.dual_master.proofs.tests.feasible.Goals as goal

pub returns-in-Ok : goal.returns-in-Ok
returns-in-Ok c = valued c.args.inst.now c.args.tour c.in-Ok.field-0 (sym c.tour_value.ensures ∙ c.in-Ok.is)
