-- The names and options of the commands.
use Rattle.std.specs.Prelude.{ℕ, Bool, true, false, ◌++◌, codes, if◌then◌else◌, is_some}
use Rattle.clap.specs.Words.{Text}
use Rattle.command_line.specs.Values.{format_of, number_between, scale_of, style_of}
use Rattle.command_line.specs.declared.argument.Argument.{Argument}
use Rattle.command_line.specs.declared.argument.Argument.TheVariants.{Instance, Certificate, Seed, Calls, Format, Scale}
use Rattle.command_line.specs.declared.argument.Argument.TheVariants.{Team, Labels, Workers, Style, Out, Nodes, SearchSeed}

-- the word by which an argument is known
abbrev pub id_of : Argument → Text
id_of Instance = codes "INSTANCE"
id_of Certificate = codes "CERT"
id_of Seed = codes "SEED"
id_of Calls = codes "CALLS"
id_of Format = codes "format"
id_of Scale = codes "scale"
id_of Team = codes "team"
id_of Labels = codes "labels"
id_of Workers = codes "workers"
id_of Style = codes "style"
id_of Out = codes "cert"
id_of Nodes = codes "nodes"
id_of SearchSeed = codes "seed"

-- the argument is a name, which is known by its place; the others are options
abbrev pub is_name : Argument → Bool
is_name Instance = true
is_name Certificate = true
is_name Seed = true
is_name Calls = true
is_name option = false

-- the command asks for nothing without the argument
abbrev pub is_required : Argument → Bool
is_required Format = true
is_required Out = true
is_required argument = is_name argument

-- the argument as the user writes it: an option behind two dashes
abbrev pub label_of : Argument → Text
label_of a = if is_name a then id_of a else codes "--" ++ id_of a

-- the text is a number from low to high
abbrev pub is_number : ℕ → ℕ → Text → Bool
is_number low high text = is_some (number_between low high text)

-- the text has the form of the argument's values
abbrev pub has_form : Argument → Text → Bool
has_form Seed text = is_number 0 18446744073709551615 text
has_form Calls text = is_number 0 300 text
has_form Format text = is_some (format_of text)
has_form Scale text = is_some (scale_of text)
has_form Team text = is_number 1 32 text
has_form Labels text = is_number 1 2000000 text
has_form Workers text = is_number 1 16 text
has_form Style text = is_some (style_of text)
has_form Nodes text = is_number 1 18446744073709551615 text
has_form SearchSeed text = is_number 0 18446744073709551615 text
has_form file text = true

-- what a line says of the values that the argument takes
abbrev pub demand_of : Argument → Text
demand_of Seed = codes " takes a number from 0 to 18446744073709551615\n"
demand_of Calls = codes " takes a number from 0 to 300\n"
demand_of Format = codes " takes op, top or toptw\n"
demand_of Scale = codes " takes 1, 10, 100 or 1000\n"
demand_of Team = codes " takes a number from 1 to 32\n"
demand_of Labels = codes " takes a number from 1 to 2000000\n"
demand_of Workers = codes " takes a number from 1 to 16\n"
demand_of Style = codes " takes plain or table\n"
demand_of Nodes = codes " takes a number from 1 to 18446744073709551615\n"
demand_of SearchSeed = codes " takes a number from 0 to 18446744073709551615\n"
demand_of file = codes " takes any text\n"
