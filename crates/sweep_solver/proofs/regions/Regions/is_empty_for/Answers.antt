use Rattle.proof_check.proofs.Stuck.{is_stuck-from}
use Rattle.sweep_solver.proofs.regions.Regions.is_empty_for.Goals as goal

pub returns : goal.returns
returns c = is_stuck-from c.args.self.now.inst.now c.args.ctx.now c.requires c.args.reason c.stuck.result c.stuck.ensures
