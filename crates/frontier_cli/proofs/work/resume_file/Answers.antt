use Rattle.std.proofs.Common.{sym, subst}
use Rattle.std.proofs.lemmas.Result.{err_from_is_err_and}
use Rattle.command_line.specs.Requests.{resume_request}
use Rattle.frontier_cli.specs.Ran.{IsContinuation}
use Rattle.frontier_cli.proofs.Checks.{ended_by_instance, ended_by_cert, ended_by_verdict}
use Rattle.frontier_cli.proofs.Resumes.{check_of, ended_as_check, ended_by_put, ended_by_report}
use Rattle.frontier_cli.proofs.work.resume_file.Goals as goal

pub returns-in_err-inst : goal.returns-in_err-inst
returns-in_err-inst g c =
    let r = resume_request c.args.command in
    let told = err_from_is_err_and c.from_residual.result c.from_residual.ensures.1 in
    rw (told.1, told.2) (ended_as_check r _ _ _ (ended_by_instance (check_of r) _ _ _ c.in_err-inst.ensures))

pub returns-in_err-old : goal.returns-in_err-old
returns-in_err-old g c =
    let r = resume_request c.args.command in
    let told = err_from_is_err_and c.from_residual-in_err-old.result c.from_residual-in_err-old.ensures.1 in
    rw (told.1, told.2) (ended_as_check r _ _ _ (ended_by_cert (check_of r) _ _ _ _ c.in_ok-inst.ensures _ c.in_err-old.ensures))

pub returns-in_err-continued : goal.returns-in_err-continued
returns-in_err-continued g c =
    let r = resume_request c.args.command in
    let told = err_from_is_err_and c.from_residual-in_err-continued.result c.from_residual-in_err-continued.ensures.1 in
    rw (told.1, told.2) (ended_as_check r _ _ _
    (ended_by_verdict (check_of r) _ _ _ _ c.in_ok-inst.ensures _ c.in_ok-old.ensures _ c.in_err-continued.ensures.refused))

pub returns-in_err-put : goal.returns-in_err-put
returns-in_err-put g c =
    let r = resume_request c.args.command in
    let told = err_from_is_err_and c.from_residual-in_err-put.result c.from_residual-in_err-put.ensures.1 in
    let report = c.in_ok-continued.continued.report in
    let continued = subst (λ bytes. IsContinuation r c.in_ok-inst.inst c.in_ok-old.old bytes report.text.items report.has_box)
    (sym c.as_slice.ensures.value) c.in_ok-continued.ensures.continued in
    rw (told.1, told.2) (ended_by_put r _ _ _ c.in_ok-inst.inst c.in_ok-inst.ensures c.in_ok-old.old c.in_ok-old.ensures _ c.as_slice.result.now
    report.text.items report.has_box continued _ c.in_err-put.ensures)

pub returns : goal.returns
returns g c =
    let r = resume_request c.args.command in
    let report = c.in_ok-continued.continued.report in
    let continued = subst (λ bytes. IsContinuation r c.in_ok-inst.inst c.in_ok-old.old bytes report.text.items report.has_box)
    (sym c.as_slice.ensures.value) c.in_ok-continued.ensures.continued in
    ended_by_report r _ _ _ c.in_ok-inst.inst c.in_ok-inst.ensures c.in_ok-old.old c.in_ok-old.ensures _ c.as_slice.result.now
    report.text.items report.has_box continued c.in_ok-put.ensures
