use Rattle.std.proofs.Common.{◌≤◌, length, sym, subst, arith}
use Rattle.std.specs.Prelude.{IfSome}
use Rattle.label_engine.specs.Cut.{cut_rules, flagged_moves}
use Rattle.label_engine.specs.Settled.{CoversFronts, HasMoreThan}
use Rattle.label_engine.proofs.Counting.{covers_many}
use Rattle.label_engine.proofs.replay.replayed_by_rows.Goals as goal

pub returns : goal.returns
returns c =
    let moves = flagged_moves c.args.moves.now in
    let hops = c.calls-hops.result in
    let found = c.in-Some.found in
    let few : length found ≤ c.args.limit = subst (λ o. IfSome o (λ labels. length labels ≤ c.args.limit)) c.in-Some.is c.in_ok-found.ensures.few in
    let cover : CoversFronts cut_rules moves hops found = subst (λ o. IfSome o (λ labels. CoversFronts cut_rules moves hops labels)) c.in-Some.is c.in_ok-found.ensures.covers in
    record {
      sigma = c.in_ok-outcome.ensures.sigma;
      walk = c.in_ok-outcome.ensures.walk;
      few = λ more.
          let many = covers_many cut_rules moves c.args.limit hops found cover (subst (HasMoreThan cut_rules moves c.args.limit) (sym c.calls-hops.ensures.count) more) in
          absurd (omega (arith, few, many));
    }
