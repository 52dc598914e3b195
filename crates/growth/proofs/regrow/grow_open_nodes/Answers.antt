use Rattle.std.proofs.Common.{◌≡◌, [], ◌∷◌, ◌++◌, true, length, reverse, refl, ap, subst, sym, ◌∙◌, arith, length-append}
use Rattle.orienteering.specs.declared.Node.TheVariants.{Cut}
use Rattle.growth.specs.Growth.{GrowsTree, IsGrown}
use Rattle.growth.proofs.Archives.{improves_same, improves_then}
use Rattle.growth.proofs.Keeping.{keeping_begins, keeping_ends, keeping_on}
use Rattle.growth.proofs.Regrowing.{accepts_next, begins, copied, empty_from, finished, grown_here, grown_node, next_is_proper, no_branch, plain_node, within_before}
use Rattle.growth.proofs.regrow.grow_open_nodes.Goals as goal

pub loop-node-init : goal.loop-node-init
loop-node-init g c =
    record {
      regrowing = λ old tree. begins (g.W.World.rules c.args.world.now) (g.W.World.proper c.args.world.now) (g.W.World.weight c.args.world.now)
          (g.met.W.World.weighs c.args.world.now) (g.met.W.World.shrinks c.args.world.now) c.args.root c.args.limit old c.args.archive.now c.new-nodes.result.items c.args.behind.items
          c.push.new.self.items c.args.waiting.now.items c.new-nodes.ensures.items
          (c.in_ok-push.ensures.items ∙ ap (λ ps. ps ++ c.args.root ∷ []) c.new-pending.ensures.items)
          c.requires.none tree c.requires.proper c.requires.within;
      archive = c.requires.archive;
      improved = improves_same c.args.archive.now;
      kept = keeping_begins c.args.behind.items c.new-nodes.result.items c.new-nodes.ensures.items;
    }

pub returns-in_default-pop-clause-grown : goal.returns-in_default-pop-clause-grown
returns-in_default-pop-clause-grown g c old tree =
    absurd (no_branch (g.W.World.rules c.args.world.now) (g.W.World.proper c.args.world.now) (g.W.World.weight c.args.world.now)
    (g.met.W.World.weighs c.args.world.now) (g.met.W.World.shrinks c.args.world.now) c.args.root c.args.limit old c.loop-node.archive c.loop-node.nodes.items c.loop-node.behind.items c.pop.new.self.items c.loop-node.pending.items c.in-Some.node c.loop-node.waiting.items
    (c.loop-node.invariant.regrowing old tree) c.in-Some.ensures.items
    (empty_from c.loop-node.pending.items (omega (arith, c.in_default-pop.ensures.cases, c.loop-node.pending.ok))))

pub returns-in_default-pop-clause-kept : goal.returns-in_default-pop-clause-kept
returns-in_default-pop-clause-kept g c =
    absurd (no_branch (g.W.World.rules c.args.world.now) (g.W.World.proper c.args.world.now) (g.W.World.weight c.args.world.now)
    (g.met.W.World.weighs c.args.world.now) (g.met.W.World.shrinks c.args.world.now) c.args.root c.args.limit c.requires.accepted.0
    c.loop-node.archive c.loop-node.nodes.items c.loop-node.behind.items c.pop.new.self.items c.loop-node.pending.items c.in-Some.node
    c.loop-node.waiting.items (c.loop-node.invariant.regrowing c.requires.accepted.0 c.requires.accepted.1) c.in-Some.ensures.items
    (empty_from c.loop-node.pending.items (omega (arith, c.in_default-pop.ensures.cases, c.loop-node.pending.ok))))

pub grow_tree-requires-clause-proper : goal.grow_tree-requires-clause-proper
grow_tree-requires-clause-proper g c =
    next_is_proper (g.W.World.rules c.args.world.now) (g.W.World.proper c.args.world.now) (g.W.World.weight c.args.world.now)
    (g.met.W.World.weighs c.args.world.now) (g.met.W.World.shrinks c.args.world.now) c.args.root c.args.limit c.requires.accepted.0 c.loop-node.archive c.loop-node.nodes.items c.loop-node.behind.items c.loop-node.pending.items
    c.pop-in-Some.new.self.items c.in-Some-pop.branch c.loop-node.waiting.items (c.loop-node.invariant.regrowing c.requires.accepted.0 c.requires.accepted.1) c.in-Some-pop.ensures.items

pub grow_tree-requires-clause-within : goal.grow_tree-requires-clause-within
grow_tree-requires-clause-within g c =
    within_before c.args.limit (length c.loop-node.nodes.items) (length c.loop-node.behind.items) c.len.result
    (c.loop-node.invariant.regrowing c.requires.accepted.0 c.requires.accepted.1).few
    (ap length c.in-Some.ensures.items ∙ length-append c.pop.new.self.items (c.in-Some.node ∷ [])
    ∙ omega (arith, c.len.ensures, c.pop.new.self.ok))

pub loop-node-preserved-in-Continue-branch-2 : goal.loop-node-preserved-in-Continue-branch-2
loop-node-preserved-in-Continue-branch-2 g c =
    record {
      regrowing = λ old tree. grown_here (g.W.World.rules c.args.world.now) (g.W.World.proper c.args.world.now) (g.W.World.weight c.args.world.now)
          (g.met.W.World.weighs c.args.world.now) (g.met.W.World.shrinks c.args.world.now) c.args.root c.args.limit old c.loop-node.archive c.grow_tree.new.archive c.loop-node.nodes.items
          c.grow_tree.new.nodes.items c.loop-node.behind.items c.pop.new.self.items c.loop-node.pending.items c.pop-in-Some.new.self.items c.in-Some-pop.branch c.loop-node.waiting.items c.grow_tree.new.waiting.items c.grow_tree.ensures.improved
          (c.loop-node.invariant.regrowing old tree) (c.in-Some.ensures.items ∙ ap (λ n. c.pop.new.self.items ++ n ∷ []) c.in-Left.is) c.in-Some-pop.ensures.items
          (subst (λ k. GrowsTree true (g.W.World.rules c.args.world.now) c.grow_tree.new.archive c.in-Some-pop.branch c.args.limit k c.loop-node.nodes.items
          c.grow_tree.new.nodes.items c.loop-node.waiting.items c.grow_tree.new.waiting.items) behind_is c.in_ok-grow_tree-in-Left.ensures.grown);
      archive = c.grow_tree.ensures.archive;
      improved = improves_then _ _ _ c.loop-node.invariant.improved c.grow_tree.ensures.improved;
      kept = keeping_on (reverse c.args.behind.items) c.loop-node.behind.items c.pop.new.self.items c.loop-node.nodes.items
          c.grow_tree.new.nodes.items c.in_ok-grow_tree-in-Left.ensures.grown.tree c.in-Some.node c.in-Some.ensures.items
          c.in_ok-grow_tree-in-Left.ensures.grown.written (λ g. absurd (subst (λ n. IsGrown n) c.in-Left.is g)) c.loop-node.invariant.kept;
    }
  where
    behind_is : c.len.result ≡ length c.pop.new.self.items
    behind_is = omega (arith, c.len.ensures, c.pop.new.self.ok)

pub returns-in_err-grow_tree-in-Left-clause-improved :
    goal.returns-in_err-grow_tree-in-Left-clause-improved
returns-in_err-grow_tree-in-Left-clause-improved g c =
    improves_then _ _ _ c.loop-node.invariant.improved c.grow_tree.ensures.improved

pub copy_cut-requires-clause-proper : goal.copy_cut-requires-clause-proper
copy_cut-requires-clause-proper g c =
    next_is_proper (g.W.World.rules c.args.world.now) (g.W.World.proper c.args.world.now) (g.W.World.weight c.args.world.now)
    (g.met.W.World.weighs c.args.world.now) (g.met.W.World.shrinks c.args.world.now) c.args.root c.args.limit c.requires.accepted.0 c.loop-node.archive c.loop-node.nodes.items c.loop-node.behind.items c.loop-node.pending.items
    c.pop-in-Some.new.self.items c.in-Some-pop.branch c.loop-node.waiting.items (c.loop-node.invariant.regrowing c.requires.accepted.0 c.requires.accepted.1) c.in-Some-pop.ensures.items

pub copy_cut-requires-clause-accepted : goal.copy_cut-requires-clause-accepted
copy_cut-requires-clause-accepted g c =
    accepts_next (g.W.World.rules c.args.world.now) (g.W.World.proper c.args.world.now) (g.W.World.weight c.args.world.now)
    (g.met.W.World.weighs c.args.world.now) (g.met.W.World.shrinks c.args.world.now) c.args.root c.args.limit c.requires.accepted.0 c.loop-node.archive c.loop-node.nodes.items c.loop-node.behind.items c.pop.new.self.items c.loop-node.pending.items
    c.pop-in-Some.new.self.items c.in-Some-pop.branch (Cut c.in-Cut.price c.in-Cut.critical) c.loop-node.waiting.items (c.loop-node.invariant.regrowing c.requires.accepted.0 c.requires.accepted.1) (c.in-Some.ensures.items ∙ ap (λ n. c.pop.new.self.items ++ n ∷ []) c.in-Cut.is) c.in-Some-pop.ensures.items

pub loop-node-preserved-in-Continue-branch-3 : goal.loop-node-preserved-in-Continue-branch-3
loop-node-preserved-in-Continue-branch-3 g c =
    record {
      regrowing = λ old tree. copied (g.W.World.rules c.args.world.now) (g.W.World.proper c.args.world.now) (g.W.World.weight c.args.world.now)
          (g.met.W.World.weighs c.args.world.now) (g.met.W.World.shrinks c.args.world.now) c.args.root c.args.limit old c.loop-node.archive c.loop-node.nodes.items c.copy_cut.new.nodes.items c.loop-node.behind.items c.pop.new.self.items c.loop-node.pending.items c.pop-in-Some.new.self.items
          c.copy_cut.new.pending.items c.in-Some-pop.branch (Cut c.in-Cut.price c.in-Cut.critical) c.loop-node.waiting.items (c.loop-node.invariant.regrowing old tree) (c.in-Some.ensures.items ∙ ap (λ n. c.pop.new.self.items ++ n ∷ []) c.in-Cut.is) c.in-Some-pop.ensures.items tt
          (c.in_ok-copy_cut-in-Cut.ensures);
      archive = c.loop-node.invariant.archive;
      improved = c.loop-node.invariant.improved;
      kept = keeping_on (reverse c.args.behind.items) c.loop-node.behind.items c.pop.new.self.items c.loop-node.nodes.items
          c.copy_cut.new.nodes.items (Cut c.in-Cut.price c.in-Cut.critical ∷ []) c.in-Some.node c.in-Some.ensures.items
          c.in_ok-copy_cut-in-Cut.ensures.written (λ g. sym (ap (λ n. n ∷ []) c.in-Cut.is)) c.loop-node.invariant.kept;
    }

pub copy_plain-requires : goal.copy_plain-requires
copy_plain-requires g c =
    record {
      proper = next_is_proper (g.W.World.rules c.args.world.now) (g.W.World.proper c.args.world.now) (g.W.World.weight c.args.world.now)
          (g.met.W.World.weighs c.args.world.now) (g.met.W.World.shrinks c.args.world.now) c.args.root c.args.limit c.requires.accepted.0 c.loop-node.archive c.loop-node.nodes.items c.loop-node.behind.items c.loop-node.pending.items
          c.pop-in-Some.new.self.items c.in-Some-pop.branch c.loop-node.waiting.items (c.loop-node.invariant.regrowing c.requires.accepted.0 c.requires.accepted.1) c.in-Some-pop.ensures.items;
      plain = plain_node c.in-Some.node c.in_default-node.not-Cut c.in_default-node.not-Left;
      accepted = accepts_next (g.W.World.rules c.args.world.now) (g.W.World.proper c.args.world.now) (g.W.World.weight c.args.world.now)
          (g.met.W.World.weighs c.args.world.now) (g.met.W.World.shrinks c.args.world.now) c.args.root c.args.limit c.requires.accepted.0 c.loop-node.archive c.loop-node.nodes.items c.loop-node.behind.items c.pop.new.self.items c.loop-node.pending.items
          c.pop-in-Some.new.self.items c.in-Some-pop.branch c.in-Some.node c.loop-node.waiting.items (c.loop-node.invariant.regrowing c.requires.accepted.0 c.requires.accepted.1) c.in-Some.ensures.items c.in-Some-pop.ensures.items;
    }

pub loop-node-preserved : goal.loop-node-preserved
loop-node-preserved g c =
    record {
      regrowing = λ old tree. copied (g.W.World.rules c.args.world.now) (g.W.World.proper c.args.world.now) (g.W.World.weight c.args.world.now)
          (g.met.W.World.weighs c.args.world.now) (g.met.W.World.shrinks c.args.world.now) c.args.root c.args.limit old c.loop-node.archive c.loop-node.nodes.items c.copy_plain.new.nodes.items c.loop-node.behind.items c.pop.new.self.items c.loop-node.pending.items c.pop-in-Some.new.self.items
          c.copy_plain.new.pending.items c.in-Some-pop.branch c.in-Some.node c.loop-node.waiting.items (c.loop-node.invariant.regrowing old tree) c.in-Some.ensures.items c.in-Some-pop.ensures.items
          (grown_node c.in-Some.node c.in_default-node.not-Left)
          c.in_ok-copy_plain-in_default-node.ensures;
      archive = c.loop-node.invariant.archive;
      improved = c.loop-node.invariant.improved;
      kept = keeping_on (reverse c.args.behind.items) c.loop-node.behind.items c.pop.new.self.items c.loop-node.nodes.items
          c.copy_plain.new.nodes.items (c.in-Some.node ∷ []) c.in-Some.node c.in-Some.ensures.items
          c.in_ok-copy_plain-in_default-node.ensures.written (λ g. refl) c.loop-node.invariant.kept;
    }

pub returns-clause-grown : goal.returns-clause-grown
returns-clause-grown g c old tree =
    finished (g.W.World.rules c.args.world.now) (g.W.World.proper c.args.world.now) (g.W.World.weight c.args.world.now)
    (g.met.W.World.weighs c.args.world.now) (g.met.W.World.shrinks c.args.world.now) c.args.root c.args.limit old c.loop-node.archive c.loop-node.nodes.items c.loop-node.behind.items c.loop-node.pending.items c.loop-node.waiting.items (c.loop-node.invariant.regrowing old tree)
    (empty_from c.loop-node.behind.items (omega (arith, c.in_default.ensures.cases, c.loop-node.behind.ok)))

pub returns-clause-kept : goal.returns-clause-kept
returns-clause-kept g c =
    keeping_ends (reverse c.args.behind.items) c.loop-node.behind.items c.loop-node.nodes.items
    (empty_from c.loop-node.behind.items (omega (arith, c.in_default.ensures.cases, c.loop-node.behind.ok))) c.loop-node.invariant.kept
