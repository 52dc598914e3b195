use Rattle.region_ctx.proofs.LinkSets.{seen_previous, seen_no_previous}
use Rattle.region_ctx.proofs.links.Links.previous.Goals as goal

pub returns-clause-some : goal.returns-clause-some
returns-clause-some c =
    let inside = c.self.inside in
    seen_previous c.args.self.now inside.calls inside.next.items inside.previous.items c.self.invariant c.self.view_is
    c.args.j c.index.result.now c.requires.low c.requires.high c.index.ensures

pub returns-clause-none : goal.returns-clause-none
returns-clause-none c =
    let inside = c.self.inside in
    seen_no_previous c.args.self.now inside.calls inside.next.items inside.previous.items c.self.invariant c.self.view_is
    c.args.j c.index.result.now c.requires.low c.requires.high c.index.ensures
