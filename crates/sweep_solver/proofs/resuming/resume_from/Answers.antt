use Rattle.std.proofs.Common.{◌≡◌, ◌≤◌, ◌^◌, length, subst, arith}
use Rattle.growth.proofs.Archives.{improves_then}
use Rattle.growth.proofs.Continuing.{if_ok}
use Rattle.sweep_solver.specs.Resumed.{IsLimitAfter, IsResumed}
use Rattle.sweep_solver.specs.Solved.{CoversPlans}
use Rattle.sweep_solver.proofs.GoingOn.{made_of, resumed}
use Rattle.sweep_solver.proofs.Starts.{covers_still}
use Rattle.sweep_solver.proofs.resuming.resume_from.Goals as goal

pub returns : goal.returns
returns c =
    let p = c.args.inst.now in
    let options = c.args.options.now in
    let old = c.args.cert.now in
    let held = c.in_ok-archive.archive in
    let points = c.regrown.new.archive in
    let grown = c.in_ok-grown.grown in
    let limit = c.limit_after-limit.result in
    let after = subst (λ ns. IsLimitAfter (length ns) options.nodes limit) c.nodes.ensures c.limit_after-limit.ensures in
    let short : length grown.items ≤ 2 ^ 64 = omega (arith, grown.ok) in
    let better = c.in_ok-grown.ensures.improved in
    let improved = improves_then old.points held points c.in_ok-archive.ensures.improved better in
    let covered = subst (λ plans. CoversPlans p plans points) c.requires.starts
    (covers_still p c.args.starts.items held points better c.in_ok-archive.ensures.covered) in
    if_ok c.certificate_of.result (λ cert. cert ≡ made_of p points grown.items)
    (IsResumed p options.labels options.nodes options.seed old)
    (λ cert same. resumed p options.labels options.nodes options.seed old limit points grown.items c.requires.accepted c.requires.some
    after short c.in_ok-grown.ensures.archive improved covered c.in_ok-grown.ensures.grown cert same)
    c.certificate_of.ensures
