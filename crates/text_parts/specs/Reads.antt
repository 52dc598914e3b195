-- What a reading promises: it finds the longest spelling at the front of the bytes, and where none stands there
-- it stops right where the bytes stop being the beginning of one.
use Rattle.std.specs.Prelude.{◌≡◌, ℕ, List, ◌∷◌, ◌++◌, Ok, Err}
use Rattle.text_parts.specs.Stops.{Stops}
use Rattle.text_parts.specs.Reading.{Reading}

-- some value is spelled so
abbrev pub IsSpelling : {A : Type 0} → (A → List ℕ → Type 0) → List ℕ → Type 0
IsSpelling Spells text = (a : _) × Spells a text

-- the bytes are empty or begin with a byte outside the set
abbrev pub StartsOutside : (ℕ → Type 0) → List ℕ → Type 0
StartsOutside More bytes = (b : ℕ) (behind : List ℕ) → bytes ≡ b ∷ behind → More b → ⊥

-- no spelling goes on behind the text with the first of the bytes
abbrev pub Ends : {A : Type 0} → (A → List ℕ → Type 0) → List ℕ → List ℕ → Type 0
Ends Spells text bytes =
    (b : ℕ) (behind tail : List ℕ) (a : _) → bytes ≡ b ∷ behind → Spells a (text ++ b ∷ tail) → ⊥

-- the value is spelled at the front of the bytes, and no longer spelling stands there
pub record Found {A : Type 0} (Spells : A → List ℕ → Type 0) (bytes : List ℕ) (a : A) (rest : List ℕ) : Type 0 where
  pub text : List ℕ
  pub spelled : Spells a text
  pub splits : bytes ≡ text ++ rest
  pub ends : Ends Spells text rest

-- The reading finds just the longest spelling, and some value is spelled. Only a byte of More can go on behind a
-- whole spelling.
pub record Reads {A : Type 0} (Spells : A → List ℕ → Type 0) (More : ℕ → Type 0) (read : Reading A) : Type 0 where
  pub found : (bytes rest : List ℕ) (a : A) → read bytes ≡ Ok (a, rest) → Found Spells bytes a rest
  pub again : (a : A) (text rest : List ℕ) → Spells a text → StartsOutside More rest → read (text ++ rest) ≡ Ok (a, rest)
  pub stopped : (bytes : List ℕ) (left : ℕ) → read bytes ≡ Err left → Stops (IsSpelling Spells) bytes left
  pub some_value : A
  pub some_text : List ℕ
  pub some_spelled : Spells some_value some_text

-- no byte: nothing goes on behind a whole spelling
abbrev pub NoByte : ℕ → Type 0
NoByte b = ⊥
