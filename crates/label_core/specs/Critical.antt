-- The critical calls of a walk: each may be visited once, and the fewer are held the better.
use Rattle.std.specs.Prelude.{ℕ, ◌<◌, if◌then◌else◌, List, Option, None, Some}
use Rattle.std.specs.Option.{ForSome}
use Rattle.bit_sets.specs.NumberSet.{RisesFrom, IsSmall, member, is_subset, inserted}
use Rattle.label_core.specs.Resource.{Rules}

-- a number that is held may not come again
abbrev pub critical_after : List ℕ → Option ℕ → Option (List ℕ)
critical_after held None = Some held
critical_after held (Some number) = if member number held then None else Some (inserted number held)

abbrev pub critical_rules : Rules (List ℕ) (Option ℕ)
critical_rules = record { extended = critical_after; leq = is_subset }

-- a set of numbers below 320, as the rising list of its numbers
pub record IsCritical (held : List ℕ) : Type 0 where
  pub rising : RisesFrom 0 held
  pub small : IsSmall held

abbrev pub IsMark : Option ℕ → Type 0
IsMark number = ForSome number (λ n. n < 320)
