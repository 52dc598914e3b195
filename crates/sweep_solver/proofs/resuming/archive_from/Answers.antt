use Rattle.std.proofs.Common.{ap, ◌∙◌}
use Rattle.std.specs.Prelude.{map}
use Rattle.growth.proofs.Archives.{improves_then}
use Rattle.sweep_solver.proofs.GoingOn.{improves_accepted}
use Rattle.sweep_solver.proofs.resuming.archive_from.Goals as goal

pub returns-clause-improved : goal.returns-clause-improved
returns-clause-improved c =
    improves_then _ _ _
    (improves_accepted c.args.inst.now c.args.labels c.args.cert.now c.in_ok-plans.plans.items c.in_ok-archive.archive c.requires.accepted
    (c.in_ok-plans.ensures ∙ ap (map (λ l. l.plan)) c.points.ensures) c.in_ok-archive.ensures.covered)
    c.offer_all.ensures.improved
