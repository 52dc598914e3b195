-- A field that is found in a line.
use Rattle.std.specs.Prelude.{◌≡◌, ℕ, List, Result, Ok, Err}
use Rattle.std.specs.Borrow.{Bor}
use Rattle.instance_files.specs.declared.values.FileCause.{FileCause}

-- the answer is the field that is found
abbrev pub Finds : Result (Bor (List ℕ)) FileCause → Result (List ℕ) FileCause → Type 0
Finds (Ok field) wanted = Ok field.now ≡ wanted
Finds (Err cause) wanted = Err cause ≡ wanted
