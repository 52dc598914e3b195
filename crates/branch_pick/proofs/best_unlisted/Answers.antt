use Rattle.branch_pick.proofs.Candidates.{first_unlisted}
use Rattle.branch_pick.proofs.best_unlisted.Goals as goal

pub returns-in-Some : goal.returns-in-Some
returns-in-Some c =
    first_unlisted c.args.ctx.now c.args.shares.now c.loop-from.from c.in-Some.to c.in-Some.ensures.0 (λ k l below. c.loop-from.invariant k l below) c.in-Some.ensures.1
