use Rattle.std.proofs.Common.{subst}
use Rattle.label_engine.specs.Cut.{cut_rules, flagged_moves}
use Rattle.label_engine.specs.Settled.{CoversFronts}
use Rattle.label_engine.proofs.Counting.{settled_covers}
use Rattle.label_engine.proofs.replay.replayed.Goals as goal

pub answer-requires-clause-covers : goal.answer-requires-clause-covers
answer-requires-clause-covers c =
    let moves = flagged_moves c.args.moves.now in
    rw c.labels.ensures
    (subst (λ n. CoversFronts cut_rules moves n c.in_ok-settled.settled) c.calls-hops.ensures.count
    (settled_covers cut_rules moves c.calls-hops.result c.in_ok-settled.settled c.in_ok-settled.ensures.settled))
