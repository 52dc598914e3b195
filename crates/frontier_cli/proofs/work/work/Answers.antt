use Rattle.std.proofs.lemmas.Result.{err_from_is_err_and}
use Rattle.frontier_cli.proofs.Works.{ended_by_words, works-asked}
use Rattle.frontier_cli.proofs.work.work.Goals as goal

pub returns-in_err-command : goal.returns-in_err-command
returns-in_err-command g c =
    let told = err_from_is_err_and c.from_residual.result c.from_residual.ensures.1 in
    rw (told.1, told.2) (ended_by_words _ _ _ c.in_err-command.ensures.refused)

pub returns : goal.returns
returns g c = works-asked _ _ _ _ _ c.in_ok-command.ensures.asked c.serve.ensures
