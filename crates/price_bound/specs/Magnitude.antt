-- How large a signed number is.
use Rattle.std.specs.Prelude.{ℕ, ◌≤◌, ℤ, unsigned_abs}

-- the magnitude of the number is at most k
abbrev pub IsWithin : ℕ → ℤ → Type 0
IsWithin k z = unsigned_abs z ≤ k
