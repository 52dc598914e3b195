use Rattle.std.proofs.Common.{◌≡◌, List, Ok, length, refl, subst, arith}
use Rattle.orienteering.specs.Preorder.{Leaf}
use Rattle.orienteering.specs.RegionRules.{RegionRules}
use Rattle.orienteering.specs.Decision.{Branch, read_nodes}
use Rattle.orienteering.specs.declared.Node.{Node}
use Rattle.growth.specs.Growth.{AreAwaited, Completes, Continues, HasRoom, IsSpent}
use Rattle.growth.proofs.Archives.{improves_then}
use Rattle.growth.proofs.Continuing.{awaited, continues, from_behind, if_both, stays_open}
use Rattle.growth.proofs.Keeping.{KeepsNodes, kept_from_behind, trees_then}
use Rattle.growth.proofs.certificate.grow_certificate.Goals as goal

pub grow_open_nodes-requires-clause-accepted : goal.grow_open_nodes-requires-clause-accepted
grow_open_nodes-requires-clause-accepted g c = (
  c.requires.accepted.0,
  from_behind (g.W.World.rules c.args.world.now) c.args.archive.now c.args.root c.args.nodes.items c.reverse.new.self.items
      c.root-branch.result c.requires.accepted.0 c.reverse.ensures.items c.root-branch.ensures c.requires.accepted.1,
)

pub returns-then-not-has_room-clause-grown : goal.returns-then-not-has_room-clause-grown
returns-then-not-has_room-clause-grown g c leaves e =
    let rules = g.W.World.rules c.args.world.now in
    let branch = c.root-branch.result in
    let tree = from_behind rules c.args.archive.now c.args.root c.args.nodes.items c.reverse.new.self.items branch leaves
    c.reverse.ensures.items c.root-branch.ensures e in
    stays_open rules c.grow_open_nodes.new.archive c.args.root c.args.limit branch c.args.nodes.items leaves c.in_ok-nodes.nodes.items
    c.grow_open_nodes.new.waiting.items c.root-branch.ensures
    (kept_from_behind c.args.nodes.items c.reverse.new.self.items c.in_ok-nodes.nodes.items c.reverse.ensures.items c.in_ok-nodes.ensures.kept)
    (c.in_ok-nodes.ensures.grown leaves tree)
    (subst (λ k. IsSpent c.args.limit k) count (c.if-not-has_room.ensures.spent (λ t. absurd (cc))))
  where
    count : c.len.result ≡ length c.in_ok-nodes.nodes.items
    count = omega (arith, c.len.ensures, c.in_ok-nodes.nodes.ok)

pub grow_waiting-requires-clause-awaited : goal.grow_waiting-requires-clause-awaited
grow_waiting-requires-clause-awaited g c =
    let rules = g.W.World.rules c.args.world.now in
    let branch = c.root-branch.result in
    let leaves = c.requires.accepted.0 in
    let tree = from_behind rules c.args.archive.now c.args.root c.args.nodes.items c.reverse.new.self.items branch leaves
    c.reverse.ensures.items c.root-branch.ensures c.requires.accepted.1 in
    let r = c.in_ok-nodes.ensures.grown leaves tree in (
      branch,
      r.leaves,
      awaited rules c.grow_open_nodes.new.archive c.args.root (g.W.World.proper c.args.world.now) c.args.limit branch leaves
          c.in_ok-nodes.nodes.items c.grow_open_nodes.new.waiting.items c.root-branch.ensures c.requires.proper
          (subst (λ k. HasRoom c.args.limit k) count (c.if-not-has_room.ensures.room refl)) r,
    )
  where
    count : c.len.result ≡ length c.in_ok-nodes.nodes.items
    count = omega (arith, c.len.ensures, c.in_ok-nodes.nodes.ok)

pub returns-clause-improved : goal.returns-clause-improved
returns-clause-improved g c = improves_then _ _ _ c.grow_open_nodes.ensures.improved c.grow_waiting.ensures.improved

pub returns-clause-grown : goal.returns-clause-grown
returns-clause-grown g c =
    let branch = c.root-branch.result in
    let between = c.in_ok-nodes.nodes.items in
    if_both c.grow_waiting.result
    (λ whole. (root : Branch g.row.W-Region.Denot) (leaves : List (Leaf (Branch g.row.W-Region.Denot) Node)) →
    AreAwaited rules (g.W.World.proper c.args.world.now) c.grow_open_nodes.new.archive root between leaves
    c.grow_open_nodes.new.waiting.items →
    Completes rules c.grow_waiting.new.archive root c.args.limit leaves whole.items)
    (λ whole. KeepsNodes between whole.items)
    (λ whole. (leaves : List (Leaf (Branch g.row.W-Region.Denot) Node)) →
    read_nodes rules c.args.archive.now c.args.root c.args.nodes.items ≡ Ok leaves →
    Continues rules c.grow_waiting.new.archive c.args.root c.args.limit c.args.nodes.items leaves whole.items)
    (λ whole completes kept leaves e.
    let tree = from_behind rules c.args.archive.now c.args.root c.args.nodes.items c.reverse.new.self.items branch leaves
    c.reverse.ensures.items c.root-branch.ensures e in
    let r = c.in_ok-nodes.ensures.grown leaves tree in
    let before = kept_from_behind c.args.nodes.items c.reverse.new.self.items between c.reverse.ensures.items c.in_ok-nodes.ensures.kept in
    continues rules c.grow_waiting.new.archive c.args.root c.args.limit branch c.args.nodes.items leaves r.leaves whole.items
    c.root-branch.ensures (trees_then c.args.nodes.items between whole.items before kept) r.within
    (completes branch r.leaves
    (awaited rules c.grow_open_nodes.new.archive c.args.root (g.W.World.proper c.args.world.now) c.args.limit branch leaves
    between c.grow_open_nodes.new.waiting.items c.root-branch.ensures c.requires.proper
    (subst (λ k. HasRoom c.args.limit k) count (c.if-not-has_room.ensures.room refl)) r)))
    c.grow_waiting.ensures.grown c.grow_waiting.ensures.kept
  where
    rules : RegionRules g.row.W-Region.Denot
    rules = g.W.World.rules c.args.world.now

    count : c.len.result ≡ length c.in_ok-nodes.nodes.items
    count = omega (arith, c.len.ensures, c.in_ok-nodes.nodes.ok)
