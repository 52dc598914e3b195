use Rattle.std.proofs.Common.{◌≡◌, Err, rules, sym, ap, ◌∙◌, subst}
use Rattle.label_engine.specs.Cut.{Cut, cut, IsCut, cut_rules, flagged_moves, relaxed}
use Rattle.label_engine.specs.Greatest.{is_open_tour, HasWalk}
use Rattle.label_engine.specs.Settled.{HasMoreThan}
use Rattle.label_engine.specs.declared.label.ReplayFail.TheVariants.{TooManyLabels}
use Rattle.label_engine.proofs.Flagged.{too_many_flagged, few_flagged}
use Rattle.label_engine.proofs.WalkLimits.{outcome_within}
use Rattle.label_engine.proofs.replay.greatest.Goals as goal
use Rattle.orienteering.specs.Duality.{BoundsTours}
use Rattle.orienteering.specs.Instance.{calls}
use Rattle.orienteering.specs.Sigma.{sigma}
use Rattle.orienteering.proofs.Replay.{sigma_bounds_tours}

pub returns-in_err-outcome-clause-many : goal.returns-in_err-outcome-clause-many
returns-in_err-outcome-clause-many c e =
    let m : Cut = cut c.args.inst.now c.args.ctx.now c.args.price.now c.args.critical.now in
    let is : IsCut m = record { instance = c.calls-calls.ensures.instance; proper = c.requires.proper; fit = c.requires.fit; critical = c.requires.critical } in
    let moves_is : c.in_ok-moves.moves ≡ m = c.in_ok-moves.ensures ∙ c.new-cut.ensures in
    let failed : c.replayed.result ≡ Err TooManyLabels = search rules in
    too_many_flagged m is c.args.limit
    (subst (λ n. HasMoreThan cut_rules (flagged_moves n) c.args.limit (calls n.problem)) moves_is (c.replayed.ensures.many failed))

pub returns-clause-tours : goal.returns-clause-tours
returns-clause-tours c =
    let m : Cut = cut c.args.inst.now c.args.ctx.now c.args.price.now c.args.critical.now in
    let moves_is : c.in_ok-moves.moves ≡ m = c.in_ok-moves.ensures ∙ c.new-cut.ensures in
    subst (BoundsTours m.problem m.price (is_open_tour m.problem m.region)) (sym (c.in_ok-outcome.ensures.answer.sigma ∙ ap (λ n. sigma n.problem (relaxed n)) moves_is))
    (sigma_bounds_tours m.problem m.region m.price m.critical)

pub returns-clause-few : goal.returns-clause-few
returns-clause-few c =
    let m : Cut = cut c.args.inst.now c.args.ctx.now c.args.price.now c.args.critical.now in
    let is : IsCut m = record { instance = c.calls-calls.ensures.instance; proper = c.requires.proper; fit = c.requires.fit; critical = c.requires.critical } in
    let moves_is : c.in_ok-moves.moves ≡ m = c.in_ok-moves.ensures ∙ c.new-cut.ensures in
    few_flagged m is c.args.limit
    (λ h. c.in_ok-outcome.ensures.answer.few
    (subst (λ n. HasMoreThan cut_rules (flagged_moves n) c.args.limit (calls n.problem)) (sym moves_is) h))

pub returns-clause-within : goal.returns-clause-within
returns-clause-within c =
    let m : Cut = cut c.args.inst.now c.args.ctx.now c.args.price.now c.args.critical.now in
    let moves_is : c.in_ok-moves.moves ≡ m = c.in_ok-moves.ensures ∙ c.new-cut.ensures in
    outcome_within m.problem m.region m.price c.args.critical.now c.calls-calls.ensures.instance c.requires.fit c.in_ok-outcome.outcome
    (subst (λ n. HasWalk n.problem (relaxed n) c.in_ok-outcome.outcome) moves_is c.in_ok-outcome.ensures.answer.walk)
