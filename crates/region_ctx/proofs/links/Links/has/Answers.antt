use Rattle.std.proofs.Common.{◌∙◌, ap, arith}
use Rattle.std.specs.FinSet as set
use Rattle.orienteering.specs.Arc.{arc}
use Rattle.bit_sets.specs.ArcTable.{ArcTable}
use Rattle.bit_sets.proofs.ArcBits.{contains-arcs_where}
use Rattle.region_ctx.specs.Links.{is_link}
use Rattle.region_ctx.proofs.links.Links.has.Goals as goal

pub returns : goal.returns
returns c =
    let calls_is = ap (λ (t : ArcTable). t.calls) c.self.view_is in
    let inside = c.self.inside in
    c.is_link.ensures
    ∙ ((λ x. is_link inside.calls (c.deref.ensures.value x) (c.deref-2.ensures.value x) c.args.i c.args.j)
    ∙ (contains-arcs_where inside.calls (is_link inside.calls inside.next.items inside.previous.items) c.args.i c.args.j (omega arith) (omega arith)
    ∙ ap (λ (t : ArcTable). set.contains t.arcs (arc c.args.i c.args.j)) c.self.view_is))
