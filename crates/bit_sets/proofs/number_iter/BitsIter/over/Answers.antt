use Rattle.bit_sets.proofs.LeftNumbers.{left_members-all}
use Rattle.bit_sets.proofs.number_iter.BitsIter.over.Goals as goal

pub returns : goal.returns
returns c = left_members-all c.args.words.now
