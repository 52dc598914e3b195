use Rattle.std.proofs.Common.{ℕ, [], ◌∷◌, ◌++◌, Some, sym, subst, ◌∙◌}
use Rattle.branch_pick.specs.Candidates.{StaysFirst, GivesWay, IsBestListed}
use Rattle.branch_pick.proofs.Candidates.{entry_behind, entry_passed, entry_taken}
use Rattle.branch_pick.proofs.with_entry.Goals as goal

pub returns-then-stays_first : goal.returns-then-stays_first
returns-then-stays_first c =
    entry_behind c.args.ctx.now c.args.earlier.now c.args.share c.args.best
    (subst (λ (d : ℕ). StaysFirst c.args.best (record { from = c.args.share.from; to = c.args.share.to; distance = d })) c.abs_diff.ensures (c.stays_first.ensures.yes c.if-stays_first.true))
    c.requires

pub returns-then-is_unlisted : goal.returns-then-is_unlisted
returns-then-is_unlisted c =
    let gives = subst (λ (d : ℕ). GivesWay c.args.best (record { from = c.args.share.from; to = c.args.share.to; distance = d })) c.abs_diff.ensures (c.stays_first.ensures.no c.if-stays_first.false) in
    subst (λ (d : ℕ). IsBestListed c.args.ctx.now (c.args.earlier.now ++ c.args.share ∷ []) (Some (record { from = c.args.share.from; to = c.args.share.to; distance = d }))) (sym c.abs_diff.ensures)
    (entry_taken c.args.ctx.now c.args.earlier.now c.args.share c.args.best (sym c.is_unlisted.ensures ∙ c.if-is_unlisted.true) gives c.requires)

pub returns : goal.returns
returns c =
    entry_passed c.args.ctx.now c.args.earlier.now c.args.share c.args.best (sym c.is_unlisted.ensures ∙ c.if-is_unlisted.false) c.requires
