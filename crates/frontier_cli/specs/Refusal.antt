-- What the program's own types stand for.
use Rattle.std.specs.Prelude.{ℕ, ◌++◌, List, Vec, Result, Ok, Err, string_bytes, decimal}
use Rattle.frontier_cli.specs.Outcome as outcome
use Rattle.frontier_cli.specs.declared.refusal.Refusal.{Refusal}
use Rattle.frontier_cli.specs.declared.refusal.Refusal.TheVariants.{Words, Reader, InstanceTooLong, Instance, CertText, Cert, Read, Write, Memory}
use Rattle.frontier_cli.specs.declared.lines.Piece.{Piece}
use Rattle.frontier_cli.specs.declared.lines.Piece.TheVariants.{Text, Number}
use Rattle.frontier_cli.specs.declared.work.Report.{Report}

abbrev pub refused : Refusal → outcome.Outcome
refused (Words opening subject ending) = outcome.WordsRefused (opening.now ++ (subject.now ++ ending.now))
refused (Reader text) = outcome.WordsRefused (string_bytes text)
refused InstanceTooLong = outcome.Refused outcome.InstanceTooLong
refused (Instance line cause) = outcome.Refused (outcome.InstanceRefused line cause)
refused (CertText at cause) = outcome.Refused (outcome.CertUnread at cause)
refused (Cert fail) = outcome.Refused (outcome.CertRefused fail)
refused (Read name) = outcome.ReadFault name.now
refused Write = outcome.WriteFault
refused Memory = outcome.OutOfMemory

-- the outcome that a result stands for
abbrev pub outcome_of : Result Report Refusal → outcome.Outcome
outcome_of (Ok report) = outcome.Printed report.text.items report.has_box
outcome_of (Err refusal) = refused refusal

-- what a step came to, or the outcome that it ends the run with
abbrev pub step_of : {V : Type 0} → Result V Refusal → outcome.Step V
step_of (Ok value) = Ok value
step_of (Err refusal) = Err (refused refusal)

-- the bytes that a step got, or the outcome that it ends the run with
abbrev pub bytes_of : {A : Type 0} → Result (Vec ℕ A) Refusal → outcome.Step (List ℕ)
bytes_of (Ok bytes) = Ok bytes.items
bytes_of (Err refusal) = Err (refused refusal)

-- the text of a piece of a line
abbrev pub piece_text : Piece → List ℕ
piece_text (Text text) = text.now
piece_text (Number number) = decimal number
