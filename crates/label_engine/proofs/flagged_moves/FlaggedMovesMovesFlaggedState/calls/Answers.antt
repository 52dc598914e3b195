use Rattle.std.proofs.Common.{subst}
use Rattle.label_engine.specs.Cut.{IsCut}
use Rattle.label_engine.proofs.Flagged.{flagged_fitting}
use Rattle.label_engine.proofs.flagged_moves.FlaggedMovesMovesFlaggedState.calls.Goals as goal

pub returns-clause-fitting : goal.returns-clause-fitting
returns-clause-fitting c = flagged_fitting c.args.self.now (subst IsCut c.self.view_is c.self.invariant.0)
