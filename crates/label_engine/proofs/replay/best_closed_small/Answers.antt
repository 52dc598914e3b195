use Rattle.std.proofs.Common.{◌+◌, take, sym, ap, ◌∙◌, subst, arith}
use Rattle.label_engine.specs.Greatest.{IsBest, better}
use Rattle.label_engine.proofs.Best.{best_more}
use Rattle.label_engine.proofs.replay.best_closed_small.Goals as goal

pub loop-place-preserved : goal.loop-place-preserved
loop-place-preserved c =
    let place = c.loop-place.place in
    let made = c.better-best.ensures ∙ ap (better c.loop-place.best place) c.small_value.ensures in
    subst (IsBest c.args.cut.now (take (place + 1) c.args.labels.now)) (sym made)
    (best_more c.args.cut.now c.args.labels.now place c.index-labels-place.result c.loop-place.best (omega arith) c.index-labels-place.is c.loop-place.invariant)
