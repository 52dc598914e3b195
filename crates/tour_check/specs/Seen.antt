-- A set of numbers that holds what a list holds.
use Rattle.std.specs.Prelude.{◌≡◌, ℕ, List}
use Rattle.orienteering.specs.PlanCheck.{is_one_of}
use Rattle.bit_sets.specs.NumberSet.{member}

abbrev pub HasSame : List ℕ → List ℕ → Type 0
HasSame held seen = (j : ℕ) → member j held ≡ is_one_of seen j
