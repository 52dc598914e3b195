-- The cause for which words are refused, and the line that the user reads.
use Rattle.std.specs.Prelude.{Bool, false, ◌&&◌, not, is_none, List, [], ◌∷◌, ◌++◌, codes}
use Rattle.std.specs.List.{find}
use Rattle.std.specs.Option.{option_map_or}
use Rattle.clap.specs.Words.{Row, Text, first_of}
use Rattle.command_line.specs.Arguments.{demand_of, has_form, id_of, is_required, label_of}
use Rattle.command_line.specs.Lines.{accepted_rows, app_by, arguments_of, command_named}
use Rattle.command_line.specs.declared.argument.Argument.{Argument}
use Rattle.command_line.specs.declared.line.CommandName.{CommandName}

-- why words are refused
pub data Told : Type 0 where
  -- there is no word
  NoCommand : Told
  -- the first word names no command
  UnknownCommand : Text → Told
  -- the command's line doesn't take the words, or they call for help
  Fault : Told
  -- a required argument has no value
  Missing : Argument → Told
  -- a value hasn't the form of its argument
  Misformed : Argument → Told
  -- no cause: no refusal stands for it
  Nothing : Told

-- ---- the cause

-- the argument is required, and the words give it no value
abbrev pub is_missing : List Row → Argument → Bool
is_missing rows a = is_required a && is_none (first_of (id_of a) rows)

-- the words give the argument a value that hasn't its form
abbrev pub is_misformed : List Row → Argument → Bool
is_misformed rows a = option_map_or (λ text. not (has_form a text)) (first_of (id_of a) rows) false

-- the first argument that is missing, or else the first that is misformed
abbrev pub told_of : List Argument → List Row → Told
told_of arguments rows = option_map_or Missing (find (is_missing rows) arguments)
    (option_map_or Misformed (find (is_misformed rows) arguments) Nothing)

-- what is told of words that begin with a command's name: a fault of its line comes before its values
abbrev pub told_by : List Text → CommandName → Told
told_by words name = option_map_or (told_of (arguments_of name)) (accepted_rows (app_by name) words) Fault

-- why the words are refused
abbrev pub told_in : List Text → Told
told_in [] = NoCommand
told_in (first ∷ rest) = option_map_or (told_by (first ∷ rest)) (command_named first) (UnknownCommand first)

-- ---- the line

-- what the user reads on standard error; clap's own text follows the line of its fault
abbrev pub line_of : Told → Text
line_of NoCommand =
    codes "words: no command" ++ codes "; the commands are check, solve, resume, generate and demo\n"
line_of (UnknownCommand word) =
    codes "words: unknown command " ++ (word ++ codes "; the commands are check, solve, resume, generate and demo\n")
line_of Fault = codes "words\n"
line_of (Missing a) = codes "words: " ++ (label_of a ++ codes " is missing\n")
line_of (Misformed a) = codes "words: " ++ (label_of a ++ demand_of a)
line_of Nothing = []
