use Rattle.region_ctx.proofs.LinkSets.{seen_alone, seen_next, seen_no_next}
use Rattle.region_ctx.proofs.links.Links.next.Goals as goal

pub returns-clause-some : goal.returns-clause-some
returns-clause-some c =
    let inside = c.self.inside in
    seen_next c.args.self.now inside.calls inside.next.items inside.previous.items c.self.invariant c.self.view_is
    c.args.i c.index.result.now c.requires.low c.requires.high c.index.ensures

pub returns-clause-none : goal.returns-clause-none
returns-clause-none c =
    let inside = c.self.inside in
    seen_no_next c.args.self.now inside.calls inside.next.items inside.previous.items c.self.invariant c.self.view_is
    c.args.i c.index.result.now c.requires.low c.requires.high c.index.ensures

pub returns-clause-alone : goal.returns-clause-alone
returns-clause-alone c =
    let inside = c.self.inside in
    seen_alone c.args.self.now inside.calls inside.next.items inside.previous.items c.self.invariant c.self.view_is
    c.args.i c.index.result.now c.requires.low c.requires.high c.index.ensures
