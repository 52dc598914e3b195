use Rattle.proof_check.proofs.Stuck.{is_stuck-from}
use Rattle.proof_check.proofs.rules.is_stuck.Goals as goal

pub returns : goal.returns
returns c = is_stuck-from c.args.inst.now c.args.context.now c.requires c.args.reason c.stuck.result c.stuck.ensures
