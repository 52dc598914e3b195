-- What a reader gives, where it tells what is left to read.
use Rattle.std.specs.Prelude.{◌≡◌, ℕ, List, ◌++◌, Option, IfSome, IsSomeAnd}

-- a reader gave these bytes, and no others are gone of what was left
abbrev pub Gives : List ℕ → Option (List ℕ) → Option (List ℕ) → Type 0
Gives bytes old new = IfSome old (λ left. IsSomeAnd new (λ rest. left ≡ bytes ++ rest))
