use Rattle.std.proofs.Common.{◌≡◌, ◌*◌, filter, length}
use Rattle.std.specs.List.{range_with_len}
use Rattle.bit_sets.specs.Words.{has_bit}
use Rattle.bit_sets.proofs.words.count.Given as goal

abbrev pub invariant-loop-word : goal.invariant-loop-word
invariant-loop-word l = l.count ≡ length (filter (has_bit l.words) (range_with_len 0 (64 * l.word-index)))
