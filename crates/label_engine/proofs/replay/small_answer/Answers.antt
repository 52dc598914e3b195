use Rattle.std.proofs.Common.{Some, None, to_z, of_z, rules, ap, sym, ◌∙◌, subst}
use Rattle.std.specs.Prelude.{FitsSigned}
use Rattle.std.specs.Int.{w128}
use Rattle.std.specs.List.{All}
use Rattle.std.proofs.lemmas.Int.{to_z-of_z}
use Rattle.label_engine.specs.Greatest.{IsAtCall, IsBest, IsBestAt, IsWalkOf}
use Rattle.label_engine.specs.Cut.{relaxed}
use Rattle.label_engine.proofs.SmallSums.{covers_flagged, front_flagged}
use Rattle.label_engine.proofs.Flagged.{flagged_at_calls, flagged_best_is_sigma, flagged_best_has_walk}
use Rattle.label_engine.proofs.replay.small_answer.Goals as goal

pub best_closed_small-requires : goal.best_closed_small-requires
best_closed_small-requires c =
    subst (λ m. All (IsAtCall m) c.args.labels.now) (sym c.cut.ensures) (flagged_at_calls c.args.moves.now c.requires.cut c.args.labels.now (covers_flagged c.args.moves.now c.requires.cut c.requires.small c.args.labels.now c.requires.covers))

pub front_of-requires-clause-calls : goal.front_of-requires-clause-calls
front_of-requires-clause-calls c = λ k d within.
    let call = (flagged_at_calls c.args.moves.now c.requires.cut c.args.labels.now (covers_flagged c.args.moves.now c.requires.cut c.requires.small c.args.labels.now c.requires.covers) k d within).call in
    record { low = call.0; high = call.1 }

pub returns-in-None-clause-sigma : goal.returns-in-None-clause-sigma
returns-in-None-clause-sigma c =
    let best : IsBest c.args.moves.now c.args.labels.now None = subst (λ m. IsBest m c.args.labels.now None) c.cut.ensures c.in-None.ensures in
    flagged_best_is_sigma c.args.moves.now c.requires.cut c.args.labels.now (covers_flagged c.args.moves.now c.requires.cut c.requires.small c.args.labels.now c.requires.covers) None best

pub returns-in_ok-walk-in-Some-clause-sigma : goal.returns-in_ok-walk-in-Some-clause-sigma
returns-in_ok-walk-in-Some-clause-sigma c =
    let closed = c.in-Some.best in
    let best : IsBest c.args.moves.now c.args.labels.now (Some closed) = subst (λ m. IsBest m c.args.labels.now (Some closed)) c.cut.ensures c.in-Some.ensures in
    let fits : FitsSigned w128 closed.value = search rules in
    ap (λ z. Some z) (to_z-of_z w128 closed.value fits) ∙ flagged_best_is_sigma c.args.moves.now c.requires.cut c.args.labels.now (covers_flagged c.args.moves.now c.requires.cut c.requires.small c.args.labels.now c.requires.covers) (Some closed) best

pub returns-in_ok-walk-in-Some-clause-walk : goal.returns-in_ok-walk-in-Some-clause-walk
returns-in_ok-walk-in-Some-clause-walk c =
    let m = c.args.moves.now in
    let closed = c.in-Some.best in
    let best : IsBestAt m c.args.labels.now closed = subst (λ n. IsBestAt n c.args.labels.now closed) c.cut.ensures c.in-Some.ensures in
    let fits : FitsSigned w128 closed.value = search rules in
    let walk = flagged_best_has_walk m c.requires.cut c.args.labels.now (covers_flagged c.args.moves.now c.requires.cut c.requires.small c.args.labels.now c.requires.covers) closed best c.in_ok-walk-in-Some.walk.items
    (front_flagged m c.requires.cut c.requires.small c.args.labels.now c.requires.covers closed.place c.in_ok-walk-in-Some.walk.items c.in_ok-walk-in-Some.ensures) in
    subst (λ calls. IsWalkOf m.problem (relaxed m) (to_z w128 (of_z w128 closed.value)) calls) (sym c.from_calls.ensures)
    (subst (λ z. IsWalkOf m.problem (relaxed m) z c.in_ok-walk-in-Some.walk.items) (sym (to_z-of_z w128 closed.value fits)) walk)
