use Rattle.std.proofs.Common.{◌≡◌, drop}
use Rattle.text_parts.specs.Reading.{word_at}
use Rattle.text_parts.proofs.reading.word.Given as goal

abbrev pub invariant-loop-b : goal.invariant-loop-b
invariant-loop-b l = word_at (drop l.b-index l.text) l.rest ≡ word_at l.text l.bytes
