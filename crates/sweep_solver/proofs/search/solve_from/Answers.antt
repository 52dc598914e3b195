use Rattle.std.proofs.Common.{◌≡◌, refl, sym, subst}
use Rattle.orienteering.specs.Instance.{calls}
use Rattle.orienteering.specs.Decide.{boxes_left}
use Rattle.orienteering.specs.Certificate.{Certificate}
use Rattle.growth.proofs.Continuing.{if_ok}
use Rattle.sweep_solver.specs.Solved.{CoversPlans, IsAccepted, KeepsBudget}
use Rattle.sweep_solver.proofs.Accepted.{accepted, keeps_budget}
use Rattle.sweep_solver.proofs.Starts.{covers_still}
use Rattle.sweep_solver.proofs.search.solve_from.Goals as goal

pub returns-clause-accepted : goal.returns-clause-accepted
returns-clause-accepted c =
    let p = c.args.inst.now in
    let points = c.grown_tree.new.archive in
    let nodes = c.in_ok-grown.grown.items in
    let tree = c.in_ok-grown.ensures.tree in
    let made : Certificate = record { customers = calls p; team = p.team; scale = p.scale; points = points; nodes = nodes } in
    if_ok c.certificate_of.result (λ cert. cert ≡ made) (IsAccepted p c.args.labels)
    (λ cert e. subst (IsAccepted p c.args.labels) (sym e) (
      record { points = points; boxes = boxes_left p tree.leaves },
      accepted p c.args.labels made tree.leaves refl refl refl c.in_ok-grown.ensures.archive tree.accepted,
    ))
    c.certificate_of.ensures

pub returns-clause-budget : goal.returns-clause-budget
returns-clause-budget c =
    let p = c.args.inst.now in
    let points = c.grown_tree.new.archive in
    let nodes = c.in_ok-grown.grown.items in
    let tree = c.in_ok-grown.ensures.tree in
    let made : Certificate = record { customers = calls p; team = p.team; scale = p.scale; points = points; nodes = nodes } in
    if_ok c.certificate_of.result (λ cert. cert ≡ made) (λ cert. KeepsBudget c.args.nodes cert.nodes)
    (λ cert e. subst (λ (x : Certificate). KeepsBudget c.args.nodes x.nodes) (sym e)
    (keeps_budget c.args.nodes nodes tree.few c.in_ok-grown.ensures.closed))
    c.certificate_of.ensures

pub returns-clause-starts : goal.returns-clause-starts
returns-clause-starts c =
    let p = c.args.inst.now in
    let points = c.grown_tree.new.archive in
    let nodes = c.in_ok-grown.grown.items in
    let made : Certificate = record { customers = calls p; team = p.team; scale = p.scale; points = points; nodes = nodes } in
    if_ok c.certificate_of.result (λ cert. cert ≡ made) (λ cert. CoversPlans p c.args.starts.items cert.points)
    (λ cert e. subst (λ (x : Certificate). CoversPlans p c.args.starts.items x.points) (sym e)
    (covers_still p c.args.starts.items c.in_ok-archive.archive points c.grown_tree.ensures.improved c.in_ok-archive.ensures.covered))
    c.certificate_of.ensures
