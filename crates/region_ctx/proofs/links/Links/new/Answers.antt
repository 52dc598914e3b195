use Rattle.std.proofs.Common.{◌∙◌, ap}
use Rattle.orienteering.specs.Arc.{ArcSet}
use Rattle.bit_sets.specs.ArcTable.{ArcTable}
use Rattle.region_ctx.specs.Links.{links}
use Rattle.region_ctx.proofs.LinkSets.{no_links}
use Rattle.region_ctx.proofs.links.Links.new.Goals as goal

pub returns : goal.returns
returns c =
    let make : ArcSet → ArcTable = λ s. record { calls = c.args.n; arcs = s } in
    let next = c.in_ok-next.ensures.items_if_clones_equal (λ y e. e) in
    let previous = c.in_ok-previous.ensures.items_if_clones_equal (λ y e. e) in
    ap make ((λ i. links c.args.n (next i) (previous i)) ∙ no_links c.args.n)
