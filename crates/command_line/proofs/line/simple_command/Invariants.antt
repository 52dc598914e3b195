use Rattle.std.proofs.Common.{◌≡◌}
use Rattle.clap.specs.Words.{app_of, new_app}
use Rattle.command_line.specs.Lines.{with_rules}
use Rattle.command_line.proofs.Rules.{rules_of}
use Rattle.command_line.proofs.line.simple_command.Given as goal

abbrev pub invariant-loop-argument : goal.invariant-loop-argument
invariant-loop-argument l =
    app_of l.command ≡ with_rules (new_app l.line.word.now) (rules_of l.line.arguments.now l.argument-index)
