use Rattle.std.proofs.Common.{sym, subst}
use Rattle.std.proofs.lemmas.Result.{err_from_is_err_and}
use Rattle.command_line.specs.Requests.{solve_request}
use Rattle.frontier_cli.specs.Ran.{IsTold}
use Rattle.frontier_cli.proofs.Solves.{ended_by_instance, ended_by_put, ended_by_report}
use Rattle.frontier_cli.proofs.Solutions.{solution}
use Rattle.frontier_cli.proofs.work.solve_file.Goals as goal

pub returns-in_err-inst : goal.returns-in_err-inst
returns-in_err-inst g c =
    let told = err_from_is_err_and c.from_residual.result c.from_residual.ensures.1 in
    rw (told.1, told.2) (ended_by_instance (solve_request c.args.command) _ _ _ c.in_err-inst.ensures)

pub returns-in_err-put : goal.returns-in_err-put
returns-in_err-put g c =
    let told = err_from_is_err_and c.from_residual-in_err-put.result c.from_residual-in_err-put.ensures.1 in
    rw (told.1, told.2) (ended_by_put (solve_request c.args.command) _ _ c.in_ok-inst.inst c.in_ok-inst.ensures _ c.as_slice.result.now _ c.in_err-put.ensures)

pub returns : goal.returns
returns g c =
    let r = solve_request c.args.command in
    let found = c.in_ok-found.found in
    let report = c.in_ok-solution.solution.report in
    let told = subst (λ bytes. IsTold r.settings found.cert found.accepted bytes report.text.items report.has_box) (sym c.as_slice.ensures.value)
    c.in_ok-solution.ensures.told in
    ended_by_report r _ _ c.in_ok-inst.inst c.in_ok-inst.ensures _ c.as_slice.result.now report.text.items report.has_box
    (solution r c.in_ok-inst.inst found.cert found.accepted c.as_slice.result.now report.text.items report.has_box c.in_ok-found.ensures.found told)
    c.in_ok-put.ensures
