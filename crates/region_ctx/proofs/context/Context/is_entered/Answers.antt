use Rattle.std.proofs.Common.{◌∙◌, ap, nat_le}
use Rattle.orienteering.specs.Region.{Region, is_entered}
use Rattle.region_ctx.proofs.Regions.{entered_is}
use Rattle.region_ctx.proofs.context.Context.is_entered.Goals as goal

pub returns : goal.returns
returns c =
    ap (nat_le c.previous.result) c.calls.ensures.value
    ∙ (entered_is c.self.inside.used.calls c.self.inside.used.arcs c.args.call c.previous.result c.previous.ensures.some c.previous.ensures.none
    ∙ ap (λ (r : Region). is_entered r c.args.call) c.self.view_is)
