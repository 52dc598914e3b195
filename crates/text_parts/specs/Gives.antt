-- What a function of the program returned is what reading gives.
use Rattle.std.specs.Prelude.{◌≡◌, ℕ, ◌-◌, Result, Ok, Err, ◌==◌, if◌then◌else◌}
use Rattle.text_parts.specs.declared.stop.TextCause.{TextCause}
use Rattle.text_parts.specs.declared.stop.TextCause.TheVariants.{End, Syntax}
use Rattle.text_parts.specs.declared.stop.TextStop.{TextStop}
use Rattle.text_parts.specs.declared.stop.Stop.{Stop}
use Rattle.text_parts.specs.declared.stop.ReadFail.{ReadFail}
use Rattle.text_parts.specs.declared.stop.ReadFail.TheVariants.{Stopped, Memory}

-- the value that was returned, seen by view, or the stop
abbrev pub Gives : {X Y : Type 0} → (X → Y) → Result X Stop → Result Y ℕ → Type 0
Gives view (Ok x) read = read ≡ Ok (view x)
Gives view (Err stop) read = read ≡ Err stop.left

-- the reading stopped so, unless memory ran out
abbrev pub Fails : {Y : Type 0} → ReadFail → Result Y ℕ → Type 0
Fails Memory read = Unit {0}
Fails (Stopped stop) read = read ≡ Err stop.left

-- the value that was returned, seen by view, or the stop, unless memory ran out
abbrev pub GivesInMemory : {X Y : Type 0} → (X → Y) → Result X ReadFail → Result Y ℕ → Type 0
GivesInMemory view (Ok x) read = read ≡ Ok (view x)
GivesInMemory view (Err fail) read = Fails fail read

-- why a reading stopped, where so many bytes are left
abbrev pub cause_of : ℕ → TextCause
cause_of left = if left == 0 then End else Syntax

-- the stop, with its place counted from the front of so many bytes
abbrev pub IsPlaced : ℕ → Stop → TextStop → Type 0
IsPlaced len stop placed = (placed.at ≡ len - stop.left) × (placed.cause ≡ cause_of stop.left)
