use Rattle.std.proofs.Common.{◌≡◌, ℕ, ◌<◌, get_or, bit_and}
use Rattle.bit_sets.proofs.words.is_subset.Given as goal

abbrev pub invariant-loop-place : goal.invariant-loop-place
invariant-loop-place l = (k : ℕ) → k < l.place → bit_and (get_or l.first k 0) (get_or l.second k 0) ≡ get_or l.first k 0
