-- When words are refused, and what is said then.
use Rattle.std.specs.Prelude.{◌≡◌}
use Rattle.command_line.specs.Told.{Told}
use Rattle.command_line.specs.Told as told
use Rattle.command_line.specs.declared.refusal.WordsFail.{WordsFail}
use Rattle.command_line.specs.declared.refusal.WordsFail.TheVariants.{Refused, Memory}
use Rattle.command_line.specs.declared.refusal.WordsRefusal.{WordsRefusal}
use Rattle.command_line.specs.declared.refusal.WordsRefusal.TheVariants.{NoCommand, UnknownCommand, Line, Missing, Misformed}

-- P, where the failure is a refusal and not want of memory
abbrev pub IfRefused : WordsFail → Type 0 → Type 0
IfRefused (Refused why) P = P
IfRefused Memory P = Unit {0}

-- the cause that a refusal stands for
abbrev pub cause_of : WordsRefusal → Told
cause_of NoCommand = told.NoCommand
cause_of (UnknownCommand word) = told.UnknownCommand word.now
cause_of (Line error) = told.Fault
cause_of (Missing argument) = told.Missing argument
cause_of (Misformed argument) = told.Misformed argument

-- a refusal stands for this cause; want of memory for none
abbrev pub IsToldAs : WordsFail → Told → Type 0
IsToldAs (Refused why) cause = cause_of why ≡ cause
IsToldAs Memory cause = Unit {0}
