use Rattle.growth.proofs.Archives.{improves_then}
use Rattle.growth.specs.Growth.{Grows, Advances}
use Rattle.growth.proofs.Growing.{advances, on_ok}
use Rattle.growth.proofs.grow.grow_branch.Goals as goal

pub returns-in-Plain-clause-improved : goal.returns-in-Plain-clause-improved
returns-in-Plain-clause-improved g c =
    improves_then _ _ _ c.offer_all.ensures.improved c.grow_as_judged.ensures.improved

pub returns-in-Replayed-clause-improved : goal.returns-in-Replayed-clause-improved
returns-in-Replayed-clause-improved g c =
    improves_then _ _ _ c.offer_all.ensures.improved c.grow_by_cut.ensures.improved

pub returns-in-Plain-clause-advances : goal.returns-in-Plain-clause-advances
returns-in-Plain-clause-advances g c =
    let rules = g.W.World.rules c.args.world.now in
    on_ok c.grow_as_judged.result
    (Grows rules c.grow_as_judged.new.archive c.args.branch c.args.nodes.now.items c.grow_as_judged.new.nodes.items c.args.pending.now.items c.grow_as_judged.new.pending.items)
    (Advances c.args.may_wait rules c.grow_as_judged.new.archive c.args.branch c.args.nodes.now.items c.grow_as_judged.new.nodes.items c.args.pending.now.items c.grow_as_judged.new.pending.items c.args.waiting.now.items c.args.waiting.now.items)
    (λ grows. advances c.args.may_wait rules c.grow_as_judged.new.archive c.args.branch c.args.nodes.now.items c.grow_as_judged.new.nodes.items c.args.pending.now.items c.grow_as_judged.new.pending.items c.args.waiting.now.items grows)
    c.grow_as_judged.ensures.grows

pub returns-in-Replayed-clause-advances : goal.returns-in-Replayed-clause-advances
returns-in-Replayed-clause-advances g c =
    let rules = g.W.World.rules c.args.world.now in
    on_ok c.grow_by_cut.result
    (Grows rules c.grow_by_cut.new.archive c.args.branch c.args.nodes.now.items c.grow_by_cut.new.nodes.items c.args.pending.now.items c.grow_by_cut.new.pending.items)
    (Advances c.args.may_wait rules c.grow_by_cut.new.archive c.args.branch c.args.nodes.now.items c.grow_by_cut.new.nodes.items c.args.pending.now.items c.grow_by_cut.new.pending.items c.args.waiting.now.items c.args.waiting.now.items)
    (λ grows. advances c.args.may_wait rules c.grow_by_cut.new.archive c.args.branch c.args.nodes.now.items c.grow_by_cut.new.nodes.items c.args.pending.now.items c.grow_by_cut.new.pending.items c.args.waiting.now.items grows)
    c.grow_by_cut.ensures.grows

pub returns-in-Later-clause-improved : goal.returns-in-Later-clause-improved
returns-in-Later-clause-improved g c =
    improves_then _ _ _ c.offer_all.ensures.improved c.put_off.ensures.improved
