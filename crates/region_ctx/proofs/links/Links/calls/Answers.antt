use Rattle.std.proofs.Common.{subst}
use Rattle.bit_sets.specs.ArcTable.{ArcTable}
use Rattle.region_ctx.specs.Links.{AreSingle}
use Rattle.region_ctx.proofs.LinkSets.{single}
use Rattle.region_ctx.proofs.links.Links.calls.Goals as goal

pub returns-clause-single : goal.returns-clause-single
returns-clause-single c =
    subst (λ (t : ArcTable). AreSingle t.calls t.arcs) c.self.view_is
    (single c.self.inside.calls c.self.inside.next.items c.self.inside.previous.items c.self.invariant)
