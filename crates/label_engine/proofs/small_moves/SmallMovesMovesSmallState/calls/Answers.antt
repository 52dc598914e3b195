use Rattle.std.proofs.Common.{subst}
use Rattle.label_engine.specs.Cut.{IsCut}
use Rattle.label_engine.proofs.SmallSums.{small_fitting}
use Rattle.label_engine.proofs.small_moves.SmallMovesMovesSmallState.calls.Goals as goal

pub returns-clause-fitting : goal.returns-clause-fitting
returns-clause-fitting c = small_fitting c.args.self.now (subst IsCut c.self.view_is c.self.invariant)
