use Rattle.std.proofs.Common.{◌≡◌, ◌+◌, ◌∷◌, [], ◌++◌, length, replicate, ap, ◌∙◌, arith}
use Rattle.orienteering.specs.declared.Node.TheVariants.{Left}
use Rattle.growth.specs.Growth.{GrowsTree}
use Rattle.growth.proofs.Archives.{improves_same, improves_then}
use Rattle.growth.proofs.Growing.{goes_further, next_is_proper, none_if, on_ok, room_at, starts, stops}
use Rattle.growth.proofs.grow.grow_tree.Goals as goal

pub loop-next-init : goal.loop-next-init
loop-next-init g c =
    record {
      growing = starts c.args.may_wait (g.W.World.rules c.args.world.now) (g.W.World.proper c.args.world.now) c.args.archive.now
          c.args.branch c.args.limit c.args.others c.args.nodes.now.items c.push.new.self.items c.args.waiting.now.items
          (c.in_ok-push.ensures.items ∙ ap (λ ps. ps ++ c.args.branch ∷ []) c.new-pending.ensures.items)
          c.requires.proper c.requires.within;
      archive = c.requires.archive;
      improved = improves_same c.args.archive.now;
    }

pub grow_branch-requires-clause-proper : goal.grow_branch-requires-clause-proper
grow_branch-requires-clause-proper g c =
    let next = c.next_branch.ensures.some c.in-Some.next c.in-Some.is in
    next_is_proper c.args.may_wait (g.W.World.rules c.args.world.now) (g.W.World.proper c.args.world.now) c.loop-next.archive
    c.args.branch c.args.limit c.args.others c.args.nodes.now.items c.loop-next.nodes.items c.loop-next.pending.items
    c.next_branch.new.pending.items c.in-Some.next c.args.waiting.now.items c.loop-next.waiting.items
    c.loop-next.invariant.growing next.0

pub loop-next-smaller : goal.loop-next-smaller
loop-next-smaller g c =
    let next = c.next_branch.ensures.some c.in-Some.next c.in-Some.is in
    (goes_further c.args.may_wait (g.W.World.rules c.args.world.now) (g.W.World.proper c.args.world.now)
    (g.W.World.weight c.args.world.now) (g.met.W.World.weighs c.args.world.now) c.args.branch c.args.limit c.args.others
    c.args.nodes.now.items c.loop-next.archive c.grow_branch.new.archive c.loop-next.nodes.items
    c.grow_branch.new.nodes.items c.loop-next.pending.items c.next_branch.new.pending.items
    c.grow_branch.new.pending.items c.in-Some.next c.args.waiting.now.items c.loop-next.waiting.items
    c.grow_branch.new.waiting.items c.grow_branch.ensures.improved c.loop-next.invariant.growing next.0
    (room_at c.args.limit (c.len.result + c.args.others + length c.loop-next.pending.items) (length c.loop-next.nodes.items + c.args.others + length c.loop-next.pending.items) next.1
    (omega (arith, c.len.ensures, c.loop-next.nodes.ok)))
    c.in_ok-grow_branch.ensures.advances).1

pub loop-next-preserved : goal.loop-next-preserved
loop-next-preserved g c =
    let next = c.next_branch.ensures.some c.in-Some.next c.in-Some.is in
    record {
      growing = (goes_further c.args.may_wait (g.W.World.rules c.args.world.now) (g.W.World.proper c.args.world.now)
          (g.W.World.weight c.args.world.now) (g.met.W.World.weighs c.args.world.now) c.args.branch c.args.limit c.args.others
          c.args.nodes.now.items c.loop-next.archive c.grow_branch.new.archive c.loop-next.nodes.items
          c.grow_branch.new.nodes.items c.loop-next.pending.items c.next_branch.new.pending.items
          c.grow_branch.new.pending.items c.in-Some.next c.args.waiting.now.items c.loop-next.waiting.items
          c.grow_branch.new.waiting.items c.grow_branch.ensures.improved c.loop-next.invariant.growing next.0
          (room_at c.args.limit (c.len.result + c.args.others + length c.loop-next.pending.items) (length c.loop-next.nodes.items + c.args.others + length c.loop-next.pending.items) next.1
          (omega (arith, c.len.ensures, c.loop-next.nodes.ok)))
          c.in_ok-grow_branch.ensures.advances).0;
      archive = c.grow_branch.ensures.archive;
      improved = improves_then _ _ _ c.loop-next.invariant.improved c.grow_branch.ensures.improved;
    }

pub returns-in_err-grow_branch-clause-improved : goal.returns-in_err-grow_branch-clause-improved
returns-in_err-grow_branch-clause-improved g c =
    improves_then _ _ _ c.loop-next.invariant.improved c.grow_branch.ensures.improved

pub returns-clause-grown : goal.returns-clause-grown
returns-clause-grown g c =
    let rules = g.W.World.rules c.args.world.now in
    let none = c.next_branch.ensures.none (none_if c.next_branch.result c.in_default.not-Some) in
    on_ok c.leave_open.result
    (c.leave_open.new.nodes.items ≡ c.loop-next.nodes.items ++ replicate c.len-2.result Left)
    (GrowsTree c.args.may_wait rules c.loop-next.archive c.args.branch c.args.limit c.args.others c.args.nodes.now.items
    c.leave_open.new.nodes.items c.args.waiting.now.items c.loop-next.waiting.items)
    (λ written. stops c.args.may_wait rules (g.W.World.proper c.args.world.now) c.args.branch c.args.limit c.args.others
    c.args.nodes.now.items c.loop-next.archive c.loop-next.nodes.items c.leave_open.new.nodes.items c.loop-next.pending.items
    c.next_branch.new.pending.items c.args.waiting.now.items c.loop-next.waiting.items _ c.len-2.result
    c.loop-next.invariant.growing none (omega (arith, c.len.ensures, c.loop-next.nodes.ok))
    (omega (arith, c.len-2.ensures, c.next_branch.new.pending.ok)) written)
    c.leave_open.ensures
