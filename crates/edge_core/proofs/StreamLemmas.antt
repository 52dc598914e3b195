-- What a whole write did so far, one call of the writer after another.
use Rattle.std.proofs.Common.{ℕ, ◌+◌, ◌-◌, List, None, Some, append_assoc, length, take, drop, arith}
use Rattle.std.specs.Prelude.{Option}
use Rattle.std.proofs.lemmas.List.{take_rest}
use Rattle.std.proofs.Math.Seq.{take-add}
use Rattle.std.specs.Io.KnownBytes.{Appends}
use Rattle.edge_core.specs.Sink.{Gains}

-- after a call that took some of the rest
pub gains-call : (bytes : List ℕ) (done count : ℕ) (a b c : Option (List ℕ)) → Gains (take done bytes) a b → Appends b c (take count (take (length bytes - done) (drop done bytes))) → Gains (take (done + count) bytes) a c
gains-call bytes done count None b c gains appends = tt
gains-call bytes done count (Some xs) b c gains appends = grind (arith, take_rest, take-add, append_assoc)

-- what the proof of a whole write uses
pub ruleset whole_write = (gains-call)
