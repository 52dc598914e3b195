use Rattle.std.proofs.Common.{◌≡◌}
use Rattle.growth.proofs.Continuing.{if_ok}
use Rattle.sweep_solver.specs.Resumed.{IsResumed}
use Rattle.sweep_solver.proofs.GoingOn.{resumed_same}
use Rattle.sweep_solver.proofs.resuming.resume.Goals as goal

pub returns-then-branch : goal.returns-then-branch
returns-then-branch g c =
    let p = c.args.inst.now in
    let options = c.args.options.now in
    let old = c.args.cert.now in
    if_ok c.copy_of.result (λ copy. copy ≡ old) (IsResumed p options.labels options.nodes options.seed old)
    (λ copy same. resumed_same p options.labels options.nodes options.seed old c.requires.accepted (c.in_ok-leaves_no_box.ensures.0 c.if-branch.true) copy same)
    c.copy_of.ensures
