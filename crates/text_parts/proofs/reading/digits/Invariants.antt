use Rattle.std.proofs.Common.{◌≡◌, length}
use Rattle.text_parts.specs.Reading.{digits_after}
use Rattle.text_parts.proofs.reading.digits.Given as goal

abbrev pub invariant-loop-b : goal.invariant-loop-b
invariant-loop-b l = digits_after l.max l.number l.rest ≡ digits_after l.max l.first l.bytes

abbrev pub decreases-loop-b : goal.decreases-loop-b
decreases-loop-b l = length l.rest
