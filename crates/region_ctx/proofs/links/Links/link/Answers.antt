use Rattle.std.proofs.Common.{◌≡◌, ◌∙◌, ap, subst, sym}
use Rattle.std.specs.FinSet as set
use Rattle.orienteering.specs.Arc.{arc, ArcSet}
use Rattle.orienteering.specs.Instance.{IsArc}
use Rattle.bit_sets.specs.ArcTable.{ArcTable}
use Rattle.region_ctx.proofs.LinkSets.{are_linked, free_into, free_out, links-linked}
use Rattle.region_ctx.proofs.links.Links.link.Goals as goal

pub invariant_of-self : goal.invariant_of-self
invariant_of-self c =
    let inside = c.self.inside in
    let calls_are : c.args.self.now.calls ≡ inside.calls = sym (ap (λ (t : ArcTable). t.calls) c.self.view_is) in
    let is_arc = subst (λ n. IsArc n c.args.i c.args.j) calls_are c.requires.arc in
    are_linked inside.calls inside.next.items inside.previous.items c.self.invariant c.args.i c.args.j is_arc
    (free_out c.args.self.now inside.calls inside.next.items inside.previous.items c.self.invariant c.self.view_is c.args.i is_arc.from c.requires.out)
    (free_into c.args.self.now inside.calls inside.next.items inside.previous.items c.self.invariant c.self.view_is c.args.j is_arc.low c.requires.into)

pub returns : goal.returns
returns c =
    let inside = c.self.inside in
    let calls_are : c.args.self.now.calls ≡ inside.calls = sym (ap (λ (t : ArcTable). t.calls) c.self.view_is) in
    let is_arc = subst (λ n. IsArc n c.args.i c.args.j) calls_are c.requires.arc in
    let make : ArcSet → ArcTable = λ s. record { calls = inside.calls; arcs = s } in
    ap make
    (links-linked inside.calls inside.next.items inside.previous.items c.self.invariant c.args.i c.args.j is_arc
    (free_out c.args.self.now inside.calls inside.next.items inside.previous.items c.self.invariant c.self.view_is c.args.i is_arc.from c.requires.out)
    (free_into c.args.self.now inside.calls inside.next.items inside.previous.items c.self.invariant c.self.view_is c.args.j is_arc.low c.requires.into))
    ∙ ap (λ (t : ArcTable). record t { arcs = set.insert t.arcs (arc c.args.i c.args.j) }) c.self.view_is
