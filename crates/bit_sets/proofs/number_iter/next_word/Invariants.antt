use Rattle.std.proofs.Common.{◌≡◌, ◌<◌, ℕ, get_or}
use Rattle.bit_sets.proofs.number_iter.next_word.Given as goal

abbrev pub invariant-loop-next : goal.invariant-loop-next
invariant-loop-next l = (k : ℕ) → l.place < k → k < l.next → get_or l.words k 0 ≡ 0
