-- What a run can come to, with its status and its line.
use Rattle.std.specs.Prelude.{ℕ, Bool, List, [], ◌∷◌, Result, Ok, Err, codes, if◌then◌else◌}
use Rattle.std.specs.List.{concat}
use Rattle.instance_files.specs.declared.values.FileCause.{FileCause}
use Rattle.text_parts.specs.declared.stop.TextCause.{TextCause}
use Rattle.orienteering.specs.declared.CheckFail.{CheckFail}
use Rattle.orienteering.specs.declared.CheckFail.TheVariants.{TooManyLabels}
use Rattle.frontier_cli.specs.Lines.{instance_line, text_line, refusal_line}

-- why the files of accepted words are refused
pub data Cause : Type 0 where
  InstanceTooLong : Cause
  InstanceRefused : (line : ℕ) (why : FileCause) → Cause
  CertUnread : (at : ℕ) (why : TextCause) → Cause
  CertRefused : (fail : CheckFail) → Cause

-- what a run comes to
pub data Outcome : Type 0 where
  -- with a text of the option reader for the error stream
  WordsRefused : (text : List ℕ) → Outcome
  Refused : (cause : Cause) → Outcome
  -- a text to print, with a box in it or without
  Printed : (text : List ℕ) (has_box : Bool) → Outcome
  -- of this name
  ReadFault : (name : List ℕ) → Outcome
  WriteFault : Outcome
  OutOfMemory : Outcome

-- a step gives a value, or ends the run with an outcome
abbrev pub Step : Type 0 → Type 0
Step V = Result V Outcome

-- a step that only looks at bytes
abbrev pub reached : {V : Type 0} → Result V Cause → Step V
reached (Ok value) = Ok value
reached (Err cause) = Err (Refused cause)

abbrev pub refusal_status : CheckFail → ℕ
refusal_status (TooManyLabels index) = 8
refusal_status fail = 1

abbrev pub cause_status : Cause → ℕ
cause_status InstanceTooLong = 9
cause_status (InstanceRefused line why) = 4
cause_status (CertUnread at why) = 1
cause_status (CertRefused fail) = refusal_status fail

abbrev pub report_status : Bool → ℕ
report_status has_box = if has_box then 3 else 0

abbrev pub status_of : Outcome → ℕ
status_of (WordsRefused text) = 2
status_of (Refused cause) = cause_status cause
status_of (Printed text has_box) = report_status has_box
status_of (ReadFault name) = 5
status_of WriteFault = 6
status_of OutOfMemory = 7

abbrev pub cause_line : Cause → List ℕ
cause_line InstanceTooLong = codes "instance: too long\n"
cause_line (InstanceRefused line why) = instance_line line why
cause_line (CertUnread at why) = text_line at why
cause_line (CertRefused fail) = refusal_line fail

-- the line for the error stream; what is printed has none
abbrev pub line_of : Outcome → List ℕ
line_of (WordsRefused text) = text
line_of (Refused cause) = cause_line cause
line_of (Printed text has_box) = []
line_of (ReadFault name) = concat (codes "read fault: " ∷ name ∷ codes "\n" ∷ [])
line_of WriteFault = codes "write fault\n"
line_of OutOfMemory = codes "out of memory\n"
