-- A step that is kept for the next label.
use Rattle.std.specs.Prelude.{◌≡◌, ℕ, ◌≤◌}
use Rattle.label_engine.specs.Front.{MoveRules}
use Rattle.label_engine.specs.declared.bucket.KnownStep.{KnownStep}

-- from any call that it names, it is the step to this call
pub record Knows {R S : Type 0} (moves : MoveRules R S) (to : ℕ) (known : KnownStep S) : Type 0 where
  pub step : 1 ≤ known.from → known.step ≡ moves.step known.from to
