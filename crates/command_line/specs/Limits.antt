-- What numbers settings have.
use Rattle.std.specs.Prelude.{ℕ, ◌≤◌, IfSome}
use Rattle.command_line.specs.declared.settings.Settings.{Settings}

-- a number from low to high
abbrev pub IsBetween : ℕ → ℕ → ℕ → Type 0
IsBetween low high n = (low ≤ n) × (n ≤ high)

-- the numbers are those that the options allow
pub record AreSettingsWithin (s : Settings) : Type 0 where
  pub team : IfSome s.team (λ m. IsBetween 1 32 m)
  pub labels : IsBetween 1 2000000 s.labels
  pub workers : IsBetween 1 16 s.workers
