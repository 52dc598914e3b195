use Rattle.std.proofs.Common.{subst}
use Rattle.bit_sets.specs.NumberSet.{RisesFrom}
use Rattle.bit_sets.proofs.Members.{rises-members}
use Rattle.bit_sets.proofs.number_set.Bits.tell.Goals as goal

pub returns : goal.returns
returns c = record { rising = subst (RisesFrom 0) c.self.view_is (rises-members c.self.inside.words.items) }
