use Rattle.std.proofs.Common.{sym}
use Rattle.std.proofs.lemmas.Bool.{ltb-true, ltb-false}
use Rattle.proof_check.proofs.Dominance.{none_dominates, first_decides}
use Rattle.proof_check.proofs.leaves.some_dominates.Goals as goal

pub returns-in-None : goal.returns-in-None
returns-in-None c =
    sym (none_dominates c.args.points.now c.args.area c.first_with.result c.first_with.ensures.place
    (ltb-false _ _ (sym c.in-None.ensures.lookup.0)))

pub returns-in-Some : goal.returns-in-Some
returns-in-Some c =
    first_decides c.args.points.now c.args.area c.first_with.result c.in-Some.listed.now c.requires c.first_with.ensures.place
    (ltb-true _ _ (sym c.in-Some.ensures.lookup.0)) c.in-Some.ensures.lookup.1
