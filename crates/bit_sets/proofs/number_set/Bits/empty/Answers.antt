use Rattle.std.proofs.Common.{ap, ◌∙◌}
use Rattle.bit_sets.specs.Words.{members}
use Rattle.bit_sets.proofs.Members.{members-empty}
use Rattle.bit_sets.proofs.number_set.Bits.empty.Goals as goal

pub returns : goal.returns
returns c = ap members c.from_buf.ensures.items ∙ members-empty
