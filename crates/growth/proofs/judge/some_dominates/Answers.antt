use Rattle.growth.proofs.Archives.{best_corner}
use Rattle.growth.proofs.judge.some_dominates.Goals as goal

pub returns : goal.returns
returns c = best_corner c.covers.result c.args.area c.args.archive.now c.covers.ensures
