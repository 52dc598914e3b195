use Rattle.std.proofs.Common.{sym, ◌∙◌}
use Rattle.label_engine.proofs.SmallSums.{flagged_value_fits}
use Rattle.label_engine.proofs.small_moves.SmallMoves.step_to.Goals as goal

pub small_step-requires : goal.small_step-requires
small_step-requires c =
    flagged_value_fits c.self.inside.moves.now c.self.invariant c.args.from c.args.to c.in-Some.step (sym c.step_to.ensures ∙ c.in-Some.is)
