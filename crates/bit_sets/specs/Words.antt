-- The words whose bits a set of numbers is. No public clause cites this module.
use Rattle.std.specs.Prelude.{◌≡◌, ℕ, ◌-◌, ◌*◌, ◌/◌, ◌%◌, ◌^◌, ◌<◌, ◌≤◌, ◌==◌, Bool, List, length, filter, slice_index, slice_set, true}
use Rattle.std.specs.Int.{bit_at}
use Rattle.std.specs.List.{range_with_len}

-- the bit of the number x
abbrev pub has_bit : List ℕ → ℕ → Bool
has_bit words x = bit_at (slice_index words (x / 64)) (x % 64) == 1

-- the numbers whose bits are set
unfoldable pub members : List ℕ → List ℕ
members words = filter (has_bit words) (range_with_len 0 (64 * length words))

-- the numbers from the word at a place on, where that word has these bits left
unfoldable pub left_members : List ℕ → ℕ → ℕ → List ℕ
left_members words place word =
    filter (has_bit (slice_set words place word)) (range_with_len (64 * place) (64 * (length words - place)))

-- five words at least, more only where a bit of the last one is set, and no more than numbers of 32 bits need
pub record IsTrimmed (words : List ℕ) : Type 0 where
  pub inline : 5 ≤ length words
  pub used : 5 < length words → (y : ℕ) × (64 * (length words - 1) ≤ y) × (has_bit words y ≡ true)
  pub few : length words ≤ 2 ^ 26
