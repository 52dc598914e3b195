use Rattle.std.proofs.Common.{◌∙◌, sym}
use Rattle.pool_cols.proofs.Places.{valued}
use Rattle.pool_cols.proofs.tests.tour_of.Goals as goal

pub returns-in-Ok : goal.returns-in-Ok
returns-in-Ok c =
    valued c.args.inst.now c.from_calls-tour.result c.in-Ok.field-0 (sym c.tour_value.ensures ∙ c.in-Ok.is)
