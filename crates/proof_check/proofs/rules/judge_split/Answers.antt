use Rattle.std.proofs.Common.{sym, subst}
use Rattle.orienteering.specs.Region.{IsProper}
use Rattle.orienteering.proofs.SplitLaws.{children_are_proper}
use Rattle.proof_check.proofs.rules.judge_split.Goals as goal

pub returns-in-Ok-clause-proper : goal.returns-in-Ok-clause-proper
returns-in-Ok-clause-proper c =
    let p = c.args.judge.now.inst.now in
    let children = children_are_proper p c.args.spot.now.context.now c.requires c.args.split c.in-Ok.ensures.progress in (
      subst (IsProper p) (sym c.in-Ok.ensures.first) children.0,
      subst (IsProper p) (sym c.in-Ok.ensures.second) children.1,
    )
