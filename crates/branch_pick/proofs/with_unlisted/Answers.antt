use Rattle.branch_pick.proofs.Candidates.{near_is_best, listed_is_best, listed_stays_best, unlisted_is_best}
use Rattle.branch_pick.proofs.with_unlisted.Goals as goal

pub returns-then-is_near : goal.returns-then-is_near
returns-then-is_near c = near_is_best c.args.ctx.now c.args.shares.now c.args.listed (c.is_near.ensures c.if-is_near.true) c.requires

pub returns-in_default : goal.returns-in_default
returns-in_default c = listed_is_best c.args.ctx.now c.args.shares.now c.args.listed c.in_default.ensures c.requires

pub returns-then-stays_first : goal.returns-then-stays_first
returns-then-stays_first c =
    listed_stays_best c.args.ctx.now c.args.shares.now c.args.listed c.in-Some.unlisted (c.stays_first.ensures.yes c.if-stays_first.true) c.in-Some.ensures c.requires

pub returns : goal.returns
returns c =
    unlisted_is_best c.args.ctx.now c.args.shares.now c.args.listed c.in-Some.unlisted (c.stays_first.ensures.no c.if-stays_first.false) c.in-Some.ensures c.requires
