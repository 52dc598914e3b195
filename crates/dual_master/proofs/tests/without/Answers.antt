use Rattle.std.proofs.Common.{sym, subst}
use Rattle.orienteering.specs.Region.{IsProper}
use Rattle.orienteering.specs.declared.Split.TheVariants.{Arc}
use Rattle.orienteering.proofs.SplitLaws.{children_are_proper}
use Rattle.dual_master.proofs.tests.without.Goals as goal

pub returns-in-Ok : goal.returns-in-Ok
returns-in-Ok c =
    let both = children_are_proper c.args.inst.now c.args.ctx.now c.requires (Arc c.args.i c.args.j) c.in-Ok.ensures.progress in
    subst (IsProper c.args.inst.now) (sym c.in-Ok.ensures.second) both.1
