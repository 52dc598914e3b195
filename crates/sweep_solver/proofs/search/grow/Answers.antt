use Rattle.std.proofs.Common.{◌≡◌, sym, subst, List}
use Rattle.std.specs.Result.{IfOk}
use Rattle.std.specs.declared.result.Result.TheVariants.{Ok}
use Rattle.orienteering.specs.Region.{IsProper, Region}
use Rattle.orienteering.specs.Preorder.{Leaf}
use Rattle.orienteering.specs.Decision.{Branch, read_nodes}
use Rattle.orienteering.specs.Decide.{region_rules}
use Rattle.orienteering.specs.declared.Node.{Node}
use Rattle.orienteering.proofs.SplitLaws.{root_is_proper}
use Rattle.growth.specs.Growth.{Continues}
use Rattle.growth.proofs.Continuing.{if_ok}
use Rattle.sweep_solver.specs.Trees.{IsClosedWithin, IsTreeWithin}
use Rattle.sweep_solver.proofs.search.grow.Goals as goal

pub grow_certificate-requires-clause-proper : goal.grow_certificate-requires-clause-proper
grow_certificate-requires-clause-proper c =
    subst (IsProper c.args.regions.now.inst.now) (sym c.in_ok-root.ensures) (root_is_proper c.args.regions.now.inst.now)

pub grow_certificate-requires-clause-accepted : goal.grow_certificate-requires-clause-accepted
grow_certificate-requires-clause-accepted c =
    let p = c.args.regions.now.inst.now in
    let tree = c.requires.tree in (
      tree.leaves,
      subst (λ r. read_nodes (region_rules p c.args.regions.now.labels) c.args.archive.now r c.args.nodes.items ≡ Ok tree.leaves)
          (sym c.in_ok-root.ensures) tree.accepted,
    )

pub returns-clause-tree : goal.returns-clause-tree
returns-clause-tree c =
    let p = c.args.regions.now.inst.now in
    let rules = region_rules p c.args.regions.now.labels in
    let root = c.in_ok-root.root in
    let tree = c.requires.tree in
    let old = subst (λ r. read_nodes rules c.args.archive.now r c.args.nodes.items ≡ Ok tree.leaves) (sym c.in_ok-root.ensures) tree.accepted in
    let points = c.grow_certificate.new.archive in
    if_ok c.grow_certificate.result
    (λ grown. (leaves : List (Leaf (Branch Region) Node)) → read_nodes rules c.args.archive.now root c.args.nodes.items ≡ Ok leaves →
    Continues rules points root c.args.limit c.args.nodes.items leaves grown.items)
    (λ grown. IsTreeWithin p c.args.regions.now.labels points c.args.limit grown.items)
    (λ grown continues. let g = continues tree.leaves old in record {
      leaves = g.leaves;
      accepted = subst (λ r. read_nodes rules points r grown.items ≡ Ok g.leaves) c.in_ok-root.ensures g.accepted;
      few = g.few;
    })
    c.grow_certificate.ensures.grown

pub returns-clause-closed : goal.returns-clause-closed
returns-clause-closed c =
    let p = c.args.regions.now.inst.now in
    let rules = region_rules p c.args.regions.now.labels in
    let root = c.in_ok-root.root in
    let tree = c.requires.tree in
    let old = subst (λ r. read_nodes rules c.args.archive.now r c.args.nodes.items ≡ Ok tree.leaves) (sym c.in_ok-root.ensures) tree.accepted in
    let points = c.grow_certificate.new.archive in
    if_ok c.grow_certificate.result
    (λ grown. (leaves : List (Leaf (Branch Region) Node)) → read_nodes rules c.args.archive.now root c.args.nodes.items ≡ Ok leaves →
    Continues rules points root c.args.limit c.args.nodes.items leaves grown.items)
    (λ grown. IsClosedWithin c.args.limit grown.items)
    (λ grown continues. (continues tree.leaves old).closed)
    c.grow_certificate.ensures.grown

pub returns-clause-continued : goal.returns-clause-continued
returns-clause-continued c =
    let p = c.args.regions.now.inst.now in
    let rules = region_rules p c.args.regions.now.labels in
    let points = c.grow_certificate.new.archive in
    subst (λ (r : Region). IfOk c.grow_certificate.result (λ grown. (old : List (Leaf (Branch Region) Node)) →
    read_nodes rules c.args.archive.now r c.args.nodes.items ≡ Ok old →
    Continues rules points r c.args.limit c.args.nodes.items old grown.items)) c.in_ok-root.ensures c.grow_certificate.ensures.grown
