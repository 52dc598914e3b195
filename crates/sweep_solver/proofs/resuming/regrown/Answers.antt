use Rattle.std.proofs.Common.{◌≡◌, List, Ok, sym, subst, ◌∙◌}
use Rattle.orienteering.specs.Region.{Region, root}
use Rattle.orienteering.specs.Preorder.{Leaf}
use Rattle.orienteering.specs.Decision.{Branch, read_nodes}
use Rattle.orienteering.specs.Decide.{region_rules}
use Rattle.orienteering.specs.declared.Node.{Node}
use Rattle.growth.specs.Growth.{Continues}
use Rattle.growth.proofs.Archives.{improves_then}
use Rattle.growth.proofs.Continuing.{if_ok}
use Rattle.sweep_solver.proofs.GoingOn.{read_again, tree_again}
use Rattle.sweep_solver.proofs.resuming.regrown.Goals as goal

pub grow-requires-clause-tree : goal.grow-requires-clause-tree
grow-requires-clause-tree c =
    tree_again c.args.regions.now.inst.now c.args.regions.now.labels c.args.cert.now c.begun.new.archive c.args.limit c.in_ok-nodes.nodes.items
    c.requires.accepted (improves_then _ _ _ c.requires.improved c.begun.ensures.improved) (c.in_ok-nodes.ensures ∙ c.nodes.ensures) c.requires.within

pub returns-clause-improved : goal.returns-clause-improved
returns-clause-improved c = improves_then _ _ _ c.begun.ensures.improved c.grow.ensures.improved

pub returns-clause-grown : goal.returns-clause-grown
returns-clause-grown c =
    let p = c.args.regions.now.inst.now in
    let rules = region_rules p c.args.regions.now.labels in
    let points = c.begun.new.archive in
    let nodes = c.in_ok-nodes.nodes.items in
    let cert = c.args.cert.now in
    let same : nodes ≡ cert.nodes = c.in_ok-nodes.ensures ∙ c.nodes.ensures in
    if_ok c.grow.result
    (λ grown. (old : List (Leaf (Branch Region) Node)) → read_nodes rules points (root p) nodes ≡ Ok old →
    Continues rules c.grow.new.archive (root p) c.args.limit nodes old grown.items)
    (λ grown. (old : List (Leaf (Branch Region) Node)) → read_nodes rules cert.points (root p) cert.nodes ≡ Ok old →
    Continues rules c.grow.new.archive (root p) c.args.limit cert.nodes old grown.items)
    (λ grown continues old e.
    subst (λ ns. Continues rules c.grow.new.archive (root p) c.args.limit ns old grown.items) same
    (continues old
    (subst (λ ns. read_nodes rules points (root p) ns ≡ Ok old) (sym same)
    (read_again p c.args.regions.now.labels cert.points points cert.nodes old
    (improves_then _ _ _ c.requires.improved c.begun.ensures.improved) e))))
    c.grow.ensures.continued
