use Rattle.std.proofs.Common.{sym, subst, ◌∙◌}
use Rattle.orienteering.specs.Frontier.{AllRise}
use Rattle.proof_check.proofs.Meaning.{points_rise}
use Rattle.proof_check.proofs.verdict.decide.Goals as goal

pub read_boxes-requires : goal.read_boxes-requires
read_boxes-requires c =
    subst AllRise (c.points.ensures ∙ sym c.points-2.ensures)
    (points_rise c.args.inst.now c.points.result.now (sym c.points_refusal.ensures ∙ c.in_default.is))
