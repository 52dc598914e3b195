-- Where bytes stop being the beginning of a text of some set.
use Rattle.std.specs.Prelude.{◌≡◌, ℕ, ◌≤◌, List, ◌∷◌, ◌++◌, length, take}

-- some text of the set begins with the bytes
abbrev pub Begins : (List ℕ → Type 0) → List ℕ → Type 0
Begins IsText bytes = (text tail : List ℕ) × IsText text × (text ≡ bytes ++ tail)

-- so many bytes are the longest front that begins some text of the set
pub record IsLongestFront (IsText : List ℕ → Type 0) (bytes : List ℕ) (at : ℕ) : Type 0 where
  pub within : at ≤ length bytes
  pub begins : Begins IsText (take at bytes)
  pub longest : (n : ℕ) → n ≤ length bytes → Begins IsText (take n bytes) → n ≤ at

-- No text stands at the front of the bytes. The good bytes begin some text and the byte behind them
-- goes on with none, or there is no byte behind them. From the stop on so many bytes are left.
pub record Stops (IsText : List ℕ → Type 0) (bytes : List ℕ) (left : ℕ) : Type 0 where
  pub good : List ℕ
  pub bad : List ℕ
  pub splits : bytes ≡ good ++ bad
  pub left_is : length bad ≡ left
  pub next : ℕ
  pub more : List ℕ
  pub begins : IsText (good ++ next ∷ more)
  pub ends : (b : ℕ) (behind tail : List ℕ) → bad ≡ b ∷ behind → IsText (good ++ b ∷ tail) → ⊥
  pub none : (text behind : List ℕ) → IsText text → bytes ≡ text ++ behind → ⊥
