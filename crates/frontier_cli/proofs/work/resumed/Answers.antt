use Rattle.std.proofs.lemmas.Result.{IfOk-weaker}
use Rattle.command_line.specs.Requests.{resume_request}
use Rattle.frontier_cli.specs.Ran.{IsContinuation, IsTold}
use Rattle.frontier_cli.proofs.Solutions.{continuation}
use Rattle.frontier_cli.proofs.work.resumed.Goals as goal

pub returns-clause-continued : goal.returns-clause-continued
returns-clause-continued g c =
    let r = resume_request c.args.command in
    let p = c.args.inst.now in
    let old = c.args.old.now in
    let found = c.in_ok-found.found in
    IfOk-weaker c.texts_of.result
    (λ s. IsTold r.settings found.cert found.accepted s.certificate.items s.report.text.items s.report.has_box)
    (λ s. IsContinuation r p old s.certificate.items s.report.text.items s.report.has_box)
    (λ s told. continuation r p old found.cert found.accepted s.certificate.items s.report.text.items s.report.has_box
    c.in_ok-accept.ensures.accepted c.in_ok-found.ensures.continued told)
    c.texts_of.ensures.told
