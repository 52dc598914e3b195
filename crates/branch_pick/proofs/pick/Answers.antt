use Rattle.branch_pick.proofs.Candidates.{none_undecided, best_is_chosen}
use Rattle.branch_pick.proofs.pick.Goals as goal

pub returns-in_err-best : goal.returns-in_err-best
returns-in_err-best c = rw c.from_residual.ensures (none_undecided c.args.ctx.now c.args.shares.now c.in_err-best.ensures)

pub returns : goal.returns
returns c = best_is_chosen c.args.ctx.now c.args.shares.now c.in_ok-best.best c.in_ok-best.ensures
