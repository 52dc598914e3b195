use Rattle.std.proofs.Common.{sym, subst}
use Rattle.orienteering.specs.Region.{IsProper}
use Rattle.orienteering.proofs.SplitLaws.{children_are_proper}
use Rattle.label_engine.proofs.tests.part.Goals as goal

pub returns-then-is_first : goal.returns-then-is_first
returns-then-is_first c =
    let both = children_are_proper c.args.inst.now c.args.ctx.now c.requires c.args.split c.in-Ok.ensures.progress in
    subst (IsProper c.args.inst.now) (sym c.in-Ok.ensures.first) both.0

pub returns-else-is_first : goal.returns-else-is_first
returns-else-is_first c =
    let both = children_are_proper c.args.inst.now c.args.ctx.now c.requires c.args.split c.in-Ok.ensures.progress in
    subst (IsProper c.args.inst.now) (sym c.in-Ok.ensures.second) both.1
