-- The critical calls of a walk by numbers below 64. The rules are those of `critical_rules`.
use Rattle.std.specs.Prelude.{ℕ, ◌<◌, List, Option}
use Rattle.std.specs.List.{AllByRecursion}
use Rattle.std.specs.Option.{ForSome}
use Rattle.bit_sets.specs.NumberSet.{RisesFrom}

-- a set of numbers below 64, as the rising list of its numbers
pub record IsFlags (held : List ℕ) : Type 0 where
  pub rising : RisesFrom 0 held
  pub low : AllByRecursion (λ x. x < 64) held

abbrev pub IsFlag : Option ℕ → Type 0
IsFlag number = ForSome number (λ n. n < 64)
