use Rattle.orienteering.proofs.Lengths.{lengths_are_greatest}
use Rattle.orienteering.proofs.ShortLengths.{lengths_are_short}
use Rattle.orienteering.proofs.laws.laws_of_lengths.Goals as goal

pub returns : goal.returns
returns c = record { greatest = lengths_are_greatest; short = lengths_are_short }
