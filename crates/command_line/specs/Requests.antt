-- What a list of words asks for.
use Rattle.std.specs.Prelude.{ℕ, ◌≤◌, List, [], ◌∷◌, Option, None, IfSome, codes, option_map, option_and_then}
use Rattle.clap.specs.Words.{Row, Text, first_of}
use Rattle.command_line.specs.Lines.{accepted_rows, app_by, command_named}
use Rattle.command_line.specs.Limits.{AreSettingsWithin, IsBetween}
use Rattle.command_line.specs.Values.{format_in, number_if, number_in, number_or, settings_in}
use Rattle.command_line.specs.declared.command.CheckCommand.{CheckCommand}
use Rattle.command_line.specs.declared.command.SolveCommand.{SolveCommand}
use Rattle.command_line.specs.declared.command.ResumeCommand.{ResumeCommand}
use Rattle.command_line.specs.declared.command.GenerateCommand.{GenerateCommand}
use Rattle.command_line.specs.declared.command.DemoCommand.{DemoCommand}
use Rattle.command_line.specs.declared.command.Command.{Command}
use Rattle.command_line.specs.declared.command.Command.TheVariants as command
use Rattle.command_line.specs.declared.line.CommandName.{CommandName}
use Rattle.command_line.specs.declared.line.CommandName.TheVariants as name
use Rattle.command_line.specs.declared.settings.Settings.{Settings}

-- ---- requests

-- the certificate under one name is checked against the instance under another
pub record CheckRequest : Type 0 where
  pub instance : Text
  pub certificate : Text
  pub settings : Settings

-- the instance is solved, and its certificate put under a name
pub record SolveRequest : Type 0 where
  pub instance : Text
  pub out : Text
  pub settings : Settings
  pub nodes : Option ℕ
  pub seed : ℕ

-- a certificate of the instance is gone on from, and the new one put under a name
pub record ResumeRequest : Type 0 where
  pub instance : Text
  pub certificate : Text
  pub out : Text
  pub settings : Settings
  pub nodes : Option ℕ
  pub seed : ℕ

-- an instance is generated
abbrev pub GenerateRequest : Type 0
GenerateRequest = GenerateCommand

-- an instance is generated and solved
abbrev pub DemoRequest : Type 0
DemoRequest = DemoCommand

pub data Request : Type 0 where
  Check : CheckRequest → Request
  Solve : SolveRequest → Request
  Resume : ResumeRequest → Request
  Generate : GenerateCommand → Request
  Demo : DemoCommand → Request

-- ---- the request of each command, by the values of its line

abbrev pub check_request_in : List Row → Option Request
check_request_in rows = option_and_then (λ instance. option_and_then (λ certificate.
    option_map (λ settings. Check (record {
      instance = instance;
      certificate = certificate;
      settings = settings;
    })) (settings_in rows))
    (first_of (codes "CERT") rows))
    (first_of (codes "INSTANCE") rows)

abbrev pub solve_request_in : List Row → Option Request
solve_request_in rows = option_and_then (λ instance. option_and_then (λ out.
    option_and_then (λ settings. option_and_then (λ nodes.
    option_map (λ seed. Solve (record {
      instance = instance;
      out = out;
      settings = settings;
      nodes = nodes;
      seed = seed;
    })) (number_or (codes "seed") 0 18446744073709551615 0 rows))
    (number_if (codes "nodes") 1 18446744073709551615 rows))
    (settings_in rows))
    (first_of (codes "cert") rows))
    (first_of (codes "INSTANCE") rows)

abbrev pub resume_request_in : List Row → Option Request
resume_request_in rows = option_and_then (λ instance. option_and_then (λ certificate. option_and_then (λ out.
    option_and_then (λ settings. option_and_then (λ nodes.
    option_map (λ seed. Resume (record {
      instance = instance;
      certificate = certificate;
      out = out;
      settings = settings;
      nodes = nodes;
      seed = seed;
    })) (number_or (codes "seed") 0 18446744073709551615 0 rows))
    (number_if (codes "nodes") 1 18446744073709551615 rows))
    (settings_in rows))
    (first_of (codes "cert") rows))
    (first_of (codes "CERT") rows))
    (first_of (codes "INSTANCE") rows)

abbrev pub generate_request_in : List Row → Option Request
generate_request_in rows = option_and_then (λ seed. option_and_then (λ calls.
    option_map (λ format. Generate (record { seed = seed; calls = calls; format = format }))
    (format_in rows))
    (number_in (codes "CALLS") 0 300 rows))
    (number_in (codes "SEED") 0 18446744073709551615 rows)

abbrev pub demo_request_in : List Row → Option Request
demo_request_in rows = option_and_then (λ seed. option_and_then (λ calls.
    option_map (λ workers. Demo (record { seed = seed; calls = calls; workers = workers }))
    (number_or (codes "workers") 1 16 1 rows))
    (number_in (codes "CALLS") 0 300 rows))
    (number_in (codes "SEED") 0 18446744073709551615 rows)

abbrev pub request_given : CommandName → List Row → Option Request
request_given name.Check rows = check_request_in rows
request_given name.Solve rows = solve_request_in rows
request_given name.Resume rows = resume_request_in rows
request_given name.Generate rows = generate_request_in rows
request_given name.Demo rows = demo_request_in rows

-- ---- the request of words

-- what words ask for that begin with a command's name: its line accepts them, and its values ask for it
abbrev pub request_by : List Text → CommandName → Option Request
request_by words name = option_and_then (request_given name) (accepted_rows (app_by name) words)

-- what the words ask for, or none where they are refused
abbrev pub request_in : List Text → Option Request
request_in [] = None
request_in (first ∷ rest) = option_and_then (request_by (first ∷ rest)) (command_named first)

-- ---- the commands of the program

abbrev pub check_request : CheckCommand → CheckRequest
check_request c =
    record { instance = c.instance.now; certificate = c.certificate.now; settings = c.settings }

abbrev pub solve_request : SolveCommand → SolveRequest
solve_request c = record {
  instance = c.instance.now;
  out = c.out.now;
  settings = c.settings;
  nodes = c.nodes;
  seed = c.seed;
}

abbrev pub resume_request : ResumeCommand → ResumeRequest
resume_request c = record {
  instance = c.instance.now;
  certificate = c.certificate.now;
  out = c.out.now;
  settings = c.settings;
  nodes = c.nodes;
  seed = c.seed;
}

abbrev pub request_of : Command → Request
request_of (command.Check c) = Check (check_request c)
request_of (command.Solve c) = Solve (solve_request c)
request_of (command.Resume c) = Resume (resume_request c)
request_of (command.Generate c) = Generate c
request_of (command.Demo c) = Demo c

-- ---- what callers may rely on

pub record IsSolveWithin (r : SolveRequest) : Type 0 where
  pub settings : AreSettingsWithin r.settings
  pub nodes : IfSome r.nodes (λ n. 1 ≤ n)

pub record IsResumeWithin (r : ResumeRequest) : Type 0 where
  pub settings : AreSettingsWithin r.settings
  pub nodes : IfSome r.nodes (λ n. 1 ≤ n)

pub record IsDemoWithin (d : DemoCommand) : Type 0 where
  pub calls : d.calls ≤ 300
  pub workers : IsBetween 1 16 d.workers

-- the numbers of the request are those that the options and names allow
abbrev pub IsWithinLimits : Request → Type 0
IsWithinLimits (Check r) = AreSettingsWithin r.settings
IsWithinLimits (Solve r) = IsSolveWithin r
IsWithinLimits (Resume r) = IsResumeWithin r
IsWithinLimits (Generate g) = g.calls ≤ 300
IsWithinLimits (Demo d) = IsDemoWithin d
