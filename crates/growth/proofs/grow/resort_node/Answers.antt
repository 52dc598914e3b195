use Rattle.std.proofs.Common.{subst}
use Rattle.growth.specs.Growth.{IsResort}
use Rattle.growth.specs.declared.world.Resort.TheVariants.{Realised}
use Rattle.growth.proofs.Steps.{closes_covered}
use Rattle.growth.proofs.grow.resort_node.Goals as goal

pub returns-in_ok-offer-in-Realised-clause-accepted :
    goal.returns-in_ok-offer-in-Realised-clause-accepted
returns-in_ok-offer-in-Realised-clause-accepted g c =
    let rules = g.W.World.rules c.args.world.now in
    let problem = g.W.World.problem c.args.world.now in
    let serves : IsResort rules problem c.args.branch.now.region (Realised c.in-Realised.plan) =
    subst (λ r. IsResort rules problem c.args.branch.now.region r) c.in-Realised.is
    (subst (λ region. IsResort rules problem region c.in_ok-by.field-0) c.region.ensures c.in_ok-by.ensures) in
    closes_covered rules c.offer.new.archive c.args.branch.now _ (c.in_ok-offer-in-Realised.ensures.held serves.0) serves.1
