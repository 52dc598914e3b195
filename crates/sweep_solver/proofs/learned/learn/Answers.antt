use Rattle.std.proofs.Common.{sym, subst, ◌∙◌}
use Rattle.orienteering.specs.Tour.{IsFeasibleTour}
use Rattle.pool_cols.proofs.Places.{valued}
use Rattle.sweep_solver.proofs.learned.learn.Goals as goal

pub add-requires : goal.add-requires
add-requires c =
    subst (IsFeasibleTour c.args.regions.now.inst.now) (sym c.in_ok-copy.ensures)
    (valued c.args.regions.now.inst.now c.args.tour c.in-Ok.point (sym c.tour_value.ensures ∙ c.in-Ok.is))
