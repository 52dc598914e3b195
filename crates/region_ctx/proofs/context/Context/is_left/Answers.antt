use Rattle.std.proofs.Common.{◌∙◌, ap}
use Rattle.orienteering.specs.Region.{Region, is_left}
use Rattle.region_ctx.proofs.Regions.{left_is}
use Rattle.region_ctx.proofs.context.Context.is_left.Goals as goal

pub returns : goal.returns
returns c =
    left_is c.self.inside.used.calls c.self.inside.used.arcs c.args.call c.next.result c.next.ensures.within c.next.ensures.some c.next.ensures.none
    ∙ ap (λ (r : Region). is_left r c.args.call) c.self.view_is
