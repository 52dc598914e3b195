use Rattle.std.proofs.Common.{◌≡◌, ◌≤◌, drop, length}
use Rattle.text_parts.specs.Reading.{one_of}
use Rattle.text_parts.proofs.Loops.{with_left}
use Rattle.text_parts.proofs.part.find_word.Given as goal

abbrev pub invariant-loop-value : goal.invariant-loop-value
invariant-loop-value g l =
    (with_left l.left (one_of g.W.Words.word (drop l.value-index l.values) l.bytes) ≡ one_of g.W.Words.word l.values l.bytes) × (l.left ≤ length l.bytes)
