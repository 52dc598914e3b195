use Rattle.frontier_cli.proofs.Checks.{judged, judged_refusal}
use Rattle.frontier_cli.proofs.work.checked.Goals as goal

pub returns-in-Ok : goal.returns-in-Ok
returns-in-Ok g c =
    judged c.args.settings c.args.inst.now c.args.cert.now c.in-Ok.accepted _ c.in-Ok.ensures.decided c.in-Ok.ensures.frontier
    c.in-Ok.ensures.whole c.in-Ok.ensures.small c.reported.ensures

pub returns-in-Err : goal.returns-in-Err
returns-in-Err g c =
    rw c.cert_refusal.ensures (judged_refusal c.args.settings c.args.inst.now c.args.cert.now c.in-Err.refusal c.in-Err.ensures.decided)
