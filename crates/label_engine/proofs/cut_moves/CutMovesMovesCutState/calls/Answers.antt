use Rattle.std.proofs.Common.{subst}
use Rattle.label_engine.specs.Cut.{Cut, IsCut}
use Rattle.label_engine.proofs.CutLimits.{fitting}
use Rattle.label_engine.proofs.cut_moves.CutMovesMovesCutState.calls.Goals as goal

pub returns-clause-fitting : goal.returns-clause-fitting
returns-clause-fitting c =
    let is = subst IsCut c.self.view_is c.self.invariant in
    let asked : Cut = c.args.self.now in
    fitting asked.problem asked.region asked.price asked.critical is.instance is.fit
