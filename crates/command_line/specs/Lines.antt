-- The simple command line of each command: names in their order, and options, each an optional text with one value.
use Rattle.std.specs.Prelude.{◌≡◌, List, [], ◌∷◌, ◌++◌, Option, Some, None, map, true, codes, if◌then◌else◌}
use Rattle.std.specs.Str.{bytes_eq}
use Rattle.clap.specs.Walk.{is_empty}
use Rattle.clap.specs.Words.{App, Row, Rule, Text, fault_of, is_simple, is_simple_and_free, matches_of, new_app, new_rule}
use Rattle.clap.specs.declared.builder.action.ArgAction.TheVariants.{Set}
use Rattle.command_line.specs.declared.line.CommandLine.{CommandLine}
use Rattle.command_line.specs.declared.line.CommandName.{CommandName}
use Rattle.command_line.specs.declared.line.CommandName.TheVariants.{Check, Solve, Resume, Generate, Demo}
use Rattle.command_line.specs.Arguments.{id_of, is_name}
use Rattle.command_line.specs.declared.argument.Argument.{Argument}
use Rattle.command_line.specs.declared.argument.Argument.TheVariants.{Instance, Certificate, Seed, Calls, Format, Scale}
use Rattle.command_line.specs.declared.argument.Argument.TheVariants.{Team, Labels, Workers, Style, Out, Nodes, SearchSeed}

-- an argument that is known by its place
abbrev pub name_rule : Text → Rule
name_rule name = record (new_rule name) { action = Some Set }

-- an argument that is known by its word
abbrev pub option_rule : Text → Rule
option_rule name = record (new_rule name) { long = Some name; action = Some Set }

abbrev pub argument_rule : Argument → Rule
argument_rule a = if is_name a then name_rule (id_of a) else option_rule (id_of a)

abbrev pub with_rules : App → List Rule → App
with_rules a rules = record a { top = record a.top { rules = a.top.rules ++ rules } }

-- the command line of these arguments
abbrev pub simple_app : Text → List Argument → App
simple_app name arguments = with_rules (new_app name) (map argument_rule arguments)

-- what clap promises of a command line holds of this one
abbrev pub IsPlainApp : App → Type 0
IsPlainApp a = (is_simple a ≡ true) × (is_simple_and_free a ≡ true)

-- the values that the words give, where the command line accepts them
unfoldable pub accepted_rows : App → List Text → Option (List Row)
accepted_rows a words = if is_empty (fault_of a words) then Some (matches_of a words) else None

-- ---- the commands

-- the options of the commands that read an instance
abbrev pub settings_options : List Argument
settings_options = Format ∷ Scale ∷ Team ∷ Labels ∷ Workers ∷ Style ∷ []

-- the options of the commands that search for a certificate
abbrev pub search_options : List Argument
search_options = settings_options ++ (Out ∷ Nodes ∷ SearchSeed ∷ [])

-- the arguments of each command: its names in their order, then its options
abbrev pub arguments_of : CommandName → List Argument
arguments_of Check = Instance ∷ Certificate ∷ settings_options
arguments_of Solve = Instance ∷ search_options
arguments_of Resume = Instance ∷ Certificate ∷ search_options
arguments_of Generate = Seed ∷ Calls ∷ Format ∷ []
arguments_of Demo = Seed ∷ Calls ∷ Workers ∷ []

unfoldable pub check_app : App
check_app = simple_app (codes "check") (arguments_of Check)

unfoldable pub solve_app : App
solve_app = simple_app (codes "solve") (arguments_of Solve)

unfoldable pub resume_app : App
resume_app = simple_app (codes "resume") (arguments_of Resume)

unfoldable pub generate_app : App
generate_app = simple_app (codes "generate") (arguments_of Generate)

unfoldable pub demo_app : App
demo_app = simple_app (codes "demo") (arguments_of Demo)

abbrev pub app_by : CommandName → App
app_by Check = check_app
app_by Solve = solve_app
app_by Resume = resume_app
app_by Generate = generate_app
app_by Demo = demo_app

abbrev pub command_named : Text → Option CommandName
command_named text = if bytes_eq text (codes "check") then Some Check
    else (if bytes_eq text (codes "solve") then Some Solve
    else (if bytes_eq text (codes "resume") then Some Resume
    else (if bytes_eq text (codes "generate") then Some Generate
    else (if bytes_eq text (codes "demo") then Some Demo else None))))

-- ---- the lines of the program

abbrev pub line_app : CommandLine → App
line_app line = simple_app line.word.now line.arguments.now
