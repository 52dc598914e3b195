use Rattle.std.proofs.lemmas.Result.{err_from_is_err_and}
use Rattle.command_line.specs.Requests.{check_request}
use Rattle.frontier_cli.proofs.Checks.{ended_by_instance, ended_by_cert, ended_by_verdict}
use Rattle.frontier_cli.proofs.work.check_files.Goals as goal

pub returns-in_err-instance : goal.returns-in_err-instance
returns-in_err-instance g c =
    let told = err_from_is_err_and c.from_residual.result c.from_residual.ensures.1 in
    rw (told.1, told.2) (ended_by_instance (check_request c.args.command) _ _ _ c.in_err-instance.ensures)

pub returns-in_err-cert : goal.returns-in_err-cert
returns-in_err-cert g c =
    let told = err_from_is_err_and c.from_residual-in_err-cert.result c.from_residual-in_err-cert.ensures.1 in
    rw (told.1, told.2) (ended_by_cert (check_request c.args.command) _ _ _ _ c.in_ok-instance.ensures _ c.in_err-cert.ensures)

pub returns : goal.returns
returns g c =
    ended_by_verdict (check_request c.args.command) _ _ _ _ c.in_ok-instance.ensures _ c.in_ok-cert.ensures _ c.checked.ensures
