use Rattle.proof_check.proofs.Meaning.{answer_covers, answer_frontier, answer_whole, answer_small}
use Rattle.proof_check.proofs.verdict.check.Goals as goal

pub returns-clause-cover : goal.returns-clause-cover
returns-clause-cover g c = answer_covers c.args.inst.now c.args.labels c.args.cert.now c.decide.result c.decide.ensures

pub returns-clause-frontier : goal.returns-clause-frontier
returns-clause-frontier g c = answer_frontier c.args.inst.now c.args.labels c.args.cert.now c.decide.result c.decide.ensures

pub returns-clause-whole : goal.returns-clause-whole
returns-clause-whole g c = answer_whole c.args.inst.now c.args.labels c.args.cert.now c.decide.result c.decide.ensures

pub returns-clause-small : goal.returns-clause-small
returns-clause-small g c = answer_small c.args.inst.now c.args.labels c.args.cert.now c.decide.result c.decide.ensures
