use Rattle.bit_sets.proofs.SetBits.{has_bit-cleared}
use Rattle.bit_sets.proofs.words.clear_bit.Goals as goal

pub returns : goal.returns
returns c = has_bit-cleared c.args.words.now c.args.x c.requires
