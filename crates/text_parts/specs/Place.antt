-- What a cursor is seen as, and what its calls do.
use Rattle.std.specs.Prelude.{◌≡◌, ℕ, ◌+◌, ◌-◌, ◌≤◌, ◌↔◌, List, ◌++◌, length, drop, Result, Ok, Err}
use Rattle.text_parts.specs.declared.stop.TextCause.TheVariants.{End}
use Rattle.text_parts.specs.declared.stop.TextStop.{TextStop}
use Rattle.text_parts.specs.Stops.{IsLongestFront}
use Rattle.text_parts.specs.Reads.{IsSpelling}
use Rattle.text_parts.specs.Reading.{Reading}

-- bytes, and a place in them
pub record Place : Type 0 where
  pub bytes : List ℕ
  pub at : ℕ

abbrev pub rest_of : Place → List ℕ
rest_of place = drop place.at place.bytes

-- the longest text that stands at the place spells the value, and the place moves behind it
pub record Moves {A : Type 0} (Spells : A → List ℕ → Type 0) (old new : Place) (a : A) : Type 0 where
  pub text : List ℕ
  pub spelled : Spells a text
  pub bytes : new.bytes ≡ old.bytes
  pub place : new.at ≡ old.at + length text
  pub within : new.at ≤ length old.bytes
  pub stands : rest_of old ≡ text ++ rest_of new
  pub longest : (other tail : List ℕ) → IsSpelling Spells other → rest_of old ≡ other ++ tail → length other ≤ length text

-- none of the texts stands at the place, which stays; the stop is behind the longest front of one
pub record StopsAt (IsText : List ℕ → Type 0) (old new : Place) (stop : TextStop) : Type 0 where
  pub stays : new ≡ old
  pub none : (text tail : List ℕ) → IsText text → rest_of old ≡ text ++ tail → ⊥
  pub behind : old.at ≤ stop.at
  pub within : stop.at ≤ length old.bytes
  pub front : IsLongestFront IsText (rest_of old) (stop.at - old.at)
  pub at_end : (stop.cause ≡ End) ↔ (stop.at ≡ length old.bytes)

-- what a call does that asks for the texts which spell a value
abbrev pub Asks : {A : Type 0} → (A → List ℕ → Type 0) → Place → Place → Result A TextStop → Type 0
Asks Spells old new (Ok a) = Moves Spells old new a
Asks Spells old new (Err stop) = StopsAt (IsSpelling Spells) old new stop

-- The same as a reading of what stands behind the place. Calls of which each continues so are together a reading
-- that continues so.
abbrev pub Continues : {A : Type 0} → Reading A → Place → Place → Result A TextStop → Type 0
Continues read old new (Ok a) = (new.bytes ≡ old.bytes) × (read (rest_of old) ≡ Ok (a, rest_of new))
Continues read old new (Err stop) = (new.bytes ≡ old.bytes) × (read (rest_of old) ≡ Err (length old.bytes - stop.at))
