-- Where bytes are refused, and why; and the laws of the texts.
use Rattle.std.specs.Prelude.{◌≡◌, ℕ, ◌-◌, ◌↔◌, ◌⊎◌, List, ◌++◌, length}
use Rattle.text_parts.specs.declared.stop.TextCause.{TextCause}
use Rattle.text_parts.specs.declared.stop.TextCause.TheVariants.{End}
use Rattle.text_parts.specs.declared.stop.ReadFail.{ReadFail}
use Rattle.text_parts.specs.declared.stop.ReadFail.TheVariants as reads
use Rattle.text_parts.specs.Gives.{cause_of}
use Rattle.text_parts.specs.Stops.{IsLongestFront}
use Rattle.orienteering.specs.Certificate.{Certificate}
use Rattle.cert_text.specs.declared.reading.TextFail.{TextFail}
use Rattle.cert_text.specs.declared.reading.TextFail.TheVariants.{Refused, Memory}
use Rattle.cert_text.specs.Text.{cert_text, IsCert}

-- the bytes are the text of some certificate
abbrev pub IsCertText : List ℕ → Type 0
IsCertText text = (c : Certificate) × (IsCert c × (text ≡ cert_text c))

-- no certificate has the bytes, and so many of them are the longest front that begins a certificate's text
pub record StopsBeing (bytes : List ℕ) (at : ℕ) : Type 0 where
  pub none : IsCertText bytes → ⊥
  pub front : IsLongestFront IsCertText bytes at

-- the place and the cause are right: the end exactly where all bytes begin a certificate's text
pub record IsRefusal (bytes : List ℕ) (at : ℕ) (cause : TextCause) : Type 0 where
  pub stops : StopsBeing bytes at
  pub at_end : (cause ≡ End) ↔ (at ≡ length bytes)

abbrev pub Refuses : List ℕ → TextFail → Type 0
Refuses bytes (Refused at cause) = IsRefusal bytes at cause
Refuses bytes Memory = Unit {0}

-- the refusal of a reading, with its place counted from the front of so many bytes
abbrev pub Placed : ℕ → ReadFail → TextFail → Type 0
Placed len reads.Memory fail = fail ≡ Memory
Placed len (reads.Stopped stop) fail = fail ≡ Refused (len - stop.left) (cause_of stop.left)

-- ---- laws

-- certificates with the same text are the same
abbrev pub HasOneText : Type 0
HasOneText = (c d : Certificate) → IsCert c → IsCert d → cert_text c ≡ cert_text d → c ≡ d

-- no text begins another
abbrev pub BeginsNoOther : Type 0
BeginsNoOther =
    (c d : Certificate) (x y : List ℕ) → IsCert c → IsCert d → cert_text c ++ x ≡ cert_text d ++ y → (c ≡ d) × (x ≡ y)

-- bytes are a text, or stop being the beginning of one at a place up to which they can be completed to one
abbrev pub StopsWhereNoneGoesOn : Type 0
StopsWhereNoneGoesOn = (bytes : List ℕ) → IsCertText bytes ⊎ ((at : ℕ) × StopsBeing bytes at)
