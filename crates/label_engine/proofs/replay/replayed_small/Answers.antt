use Rattle.std.proofs.Common.{◌≡◌, ◌≤◌, length, sym, ap, ◌∙◌, subst, arith}
use Rattle.std.specs.Prelude.{IfSome}
use Rattle.label_engine.specs.Cut.{Cut, cut_rules, relaxed, flagged_moves}
use Rattle.label_engine.specs.Greatest.{HasWalk}
use Rattle.label_engine.specs.Settled.{CoversFronts, HasMoreThan}
use Rattle.label_engine.specs.SmallSums.{small_rules, small_moves, HasSmallSums}
use Rattle.label_engine.proofs.Counting.{covers_many}
use Rattle.label_engine.proofs.SmallSums.{covers_flagged}
use Rattle.label_engine.proofs.replay.replayed_small.Goals as goal
use Rattle.orienteering.specs.Instance.{calls}
use Rattle.orienteering.specs.Sigma.{sigma}

pub returns : goal.returns
returns c =
    let m = c.args.moves.now in
    let n = calls m.problem in
    let found = c.in-Some.found in
    let few : length found ≤ c.args.limit = subst (λ o. IfSome o (λ labels. length labels ≤ c.args.limit)) c.in-Some.is c.in_ok-found.ensures.few in
    let small : CoversFronts small_rules (small_moves c.of-small.result) c.calls-hops.result found =
    subst (λ o. IfSome o (λ labels. CoversFronts small_rules (small_moves c.of-small.result) c.calls-hops.result labels)) c.in-Some.is c.in_ok-found.ensures.covers in
    let here : CoversFronts small_rules (small_moves m) n found =
    subst (λ k. CoversFronts small_rules (small_moves k) (calls k.problem) found) c.of-small.ensures
    (subst (λ h. CoversFronts small_rules (small_moves c.of-small.result) h found) c.calls-hops.ensures.count small) in
    let cover = covers_flagged m c.requires.cut c.requires.small found here in
    record {
      sigma = c.in_ok-outcome.ensures.sigma ∙ ap (λ k. sigma k.problem (relaxed k)) c.of-small.ensures;
      walk = subst (λ k. HasWalk k.problem (relaxed k) c.in_ok-outcome.outcome) c.of-small.ensures c.in_ok-outcome.ensures.walk;
      few = λ more.
          let many = covers_many cut_rules (flagged_moves m) c.args.limit n found cover more in
          absurd (omega (arith, few, many));
    }
