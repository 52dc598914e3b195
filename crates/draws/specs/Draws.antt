-- The random draws of a seed: each is the one before, times a fixed number, modulo a prime.
use Rattle.std.specs.Prelude.{◌≡◌, ℕ, zero, suc, ◌+◌, ◌*◌, ◌%◌, List, [], ◌∷◌, Option, Some}

-- the number before the first draw: from 1 to 2147483646
abbrev pub start : ℕ → ℕ
start seed = seed % 2147483646 + 1

-- the draw behind a draw
abbrev pub next_draw : ℕ → ℕ
next_draw x = (48271 * x) % 2147483647

-- the first n draws behind a draw
abbrev pub draws_behind : ℕ → ℕ → List ℕ
draws_behind x zero = []
draws_behind x (suc n) = next_draw x ∷ draws_behind (next_draw x) n

-- the first n draws of a seed
abbrev pub draws : ℕ → ℕ → List ℕ
draws seed n = draws_behind (start seed) n

-- one draw is taken, and the next is drawn behind it
abbrev pub TakesNext : ℕ → Option ℕ → ℕ → Type 0
TakesNext before taken after = (taken ≡ Some (next_draw before)) × (after ≡ next_draw before)
