use Rattle.std.proofs.Common.{◌≡◌, List, length, map, set, false, ap, subst, sym, ◌∙◌, arith}
use Rattle.std.proofs.lemmas.List.{length-map, map-set}
use Rattle.orienteering.specs.RegionRules.{RegionRules}
use Rattle.orienteering.specs.Preorder.{Leaf}
use Rattle.orienteering.specs.Decision.{Branch}
use Rattle.orienteering.specs.declared.Node.{Node}
use Rattle.growth.specs.Growth.{AreAwaited, Completes, GrowsTree, IsRoom, room_after, with_trees}
use Rattle.growth.proofs.Archives.{improves_same, improves_then}
use Rattle.growth.proofs.Regrowing.{empty_from}
use Rattle.growth.proofs.Keeping.{KeepsNodes}
use Rattle.growth.proofs.Continuing.{if_ok}
use Rattle.growth.proofs.Completing.{Completing, begins, completes_one, next_is_proper, next_place, whole_is}
use Rattle.growth.proofs.waiting.grow_waiting.Goals as goal

pub loop-next-init : goal.loop-next-init
loop-next-init g c =
    record {
      completing = λ root leaves a. begins (g.W.World.rules c.args.world.now) (g.W.World.proper c.args.world.now) c.args.archive.now
          root c.args.nodes.items leaves c.args.limit c.room_for-room.result (map (λ t. t.items) c.in_ok-trees.trees.items)
          c.args.waiting.items c.put_nearest_last.new.waiting.items c.len.result a c.put_nearest_last.ensures.same
          (omega (arith, c.len.ensures, c.args.waiting.ok)) c.in_ok-trees.ensures
          (subst (λ k. IsRoom c.args.limit c.room_for-room.result k) nodes_are c.room_for-room.ensures);
      archive = c.requires.archive;
      improved = improves_same c.args.archive.now;
    }
  where
    nodes_are : c.len-2.result ≡ length c.args.nodes.items
    nodes_are = omega (arith, c.len-2.ensures, c.args.nodes.ok)

pub grow_tree-requires-clause-proper : goal.grow_tree-requires-clause-proper
grow_tree-requires-clause-proper g c =
    let a = c.requires.awaited in
    next_is_proper (g.W.World.rules c.args.world.now) (g.W.World.proper c.args.world.now) (g.W.World.weight c.args.world.now)
    (g.met.W.World.weighs c.args.world.now) (g.met.W.World.shrinks c.args.world.now) c.loop-next.archive a.0 c.args.nodes.items a.1
    c.args.limit c.loop-next.room (map (λ t. t.items) c.loop-next.trees.items) c.loop-next.waiting.items c.pop.new.self.items
    c.in-Some.next (c.loop-next.invariant.completing a.0 a.1 a.2) c.in-Some.ensures.items a.2.proper

pub returns-in_err-grow_tree-clause-improved : goal.returns-in_err-grow_tree-clause-improved
returns-in_err-grow_tree-clause-improved g c =
    improves_then _ _ _ c.loop-next.invariant.improved c.grow_tree.ensures.improved

pub index_mut-requires : goal.index_mut-requires
index_mut-requires g c =
    let a = c.requires.awaited in
    let below = next_place (g.W.World.rules c.args.world.now) c.loop-next.archive a.0 c.args.nodes.items a.1
    c.args.limit c.loop-next.room (map (λ t. t.items) c.loop-next.trees.items) c.loop-next.waiting.items c.pop.new.self.items
    c.in-Some.next (c.loop-next.invariant.completing a.0 a.1 a.2) c.in-Some.ensures.items in
    omega (arith, simp length-map at below, c.loop-next.trees.ok)

pub loop-next-preserved : goal.loop-next-preserved
loop-next-preserved g c =
    record {
      completing = λ root leaves a.
          subst (λ room. Completing rules c.grow_tree.new.archive root c.args.nodes.items leaves c.args.limit room
          (map (λ t. t.items) (set c.loop-next.trees.items c.in-Some.next.place c.grow_tree.new.nodes)) c.grow_tree.new.waiting.items)
          room_is
          (subst (λ trees. Completing rules c.grow_tree.new.archive root c.args.nodes.items leaves c.args.limit
          (room_after c.loop-next.room (length c.grow_tree.new.nodes.items)) trees c.grow_tree.new.waiting.items)
          (sym (map-set (λ t. t.items) c.loop-next.trees.items c.in-Some.next.place c.grow_tree.new.nodes))
          (completes_one rules c.loop-next.archive c.grow_tree.new.archive root c.args.nodes.items leaves c.args.limit c.loop-next.room
          (map (λ t. t.items) c.loop-next.trees.items) c.loop-next.waiting.items c.pop.new.self.items c.grow_tree.new.waiting.items
          c.in-Some.next c.grow_tree.new.nodes.items c.grow_tree.ensures.improved (c.loop-next.invariant.completing root leaves a)
          c.in-Some.ensures.items
          (subst (λ ns. GrowsTree false rules c.grow_tree.new.archive c.in-Some.next.branch c.loop-next.room 0 ns
          c.grow_tree.new.nodes.items c.pop.new.self.items c.grow_tree.new.waiting.items) c.new-tree.ensures.items
          c.in_ok-grow_tree.ensures.grown)));
      archive = c.grow_tree.ensures.archive;
      improved = improves_then _ _ _ c.loop-next.invariant.improved c.grow_tree.ensures.improved;
    }
  where
    rules : RegionRules g.row.W-Region.Denot
    rules = g.W.World.rules c.args.world.now

    room_is : room_after c.loop-next.room (length c.grow_tree.new.nodes.items) ≡ c.room_after-room.result
    room_is =
        let count : length c.grow_tree.new.nodes.items ≡ c.len-in-Some.result = omega (arith, c.len-in-Some.ensures, c.grow_tree.new.nodes.ok) in
        ap (λ k. room_after c.loop-next.room k) count ∙ sym c.room_after-room.ensures

pub returns-clause-grown : goal.returns-clause-grown
returns-clause-grown g c =
    let rules = g.W.World.rules c.args.world.now in
    let Proper = g.W.World.proper c.args.world.now in
    if_ok c.put_in_places.result
    (λ whole. whole.items ≡ with_trees c.args.nodes.items (map (λ t. t.items) c.loop-next.trees.items))
    (λ whole. (root : Branch g.row.W-Region.Denot) (leaves : List (Leaf (Branch g.row.W-Region.Denot) Node)) →
    AreAwaited rules Proper c.args.archive.now root c.args.nodes.items leaves c.args.waiting.items →
    Completes rules c.loop-next.archive root c.args.limit leaves whole.items)
    (λ whole is root leaves a. whole_is rules Proper (g.W.World.weight c.args.world.now)
    (g.met.W.World.weighs c.args.world.now) (g.met.W.World.shrinks c.args.world.now) c.loop-next.archive root c.args.nodes.items leaves
    c.args.limit c.loop-next.room (map (λ t. t.items) c.loop-next.trees.items) c.loop-next.waiting.items whole.items
    (c.loop-next.invariant.completing root leaves a)
    (empty_from c.loop-next.waiting.items (omega (arith, c.in_default.ensures.cases, c.loop-next.waiting.ok)))
    a.proper is)
    c.put_in_places.ensures

pub returns-clause-kept : goal.returns-clause-kept
returns-clause-kept g c =
    let trees = map (λ t. t.items) c.loop-next.trees.items in
    if_ok c.put_in_places.result (λ whole. whole.items ≡ with_trees c.args.nodes.items trees)
    (λ whole. KeepsNodes c.args.nodes.items whole.items) (λ whole is. (trees, is)) c.put_in_places.ensures
