use Rattle.label_core.proofs.WordFlags.{members-zero}
use Rattle.label_core.proofs.flags.Flags.none.Goals as goal

pub returns : goal.returns
returns c = members-zero
