use Rattle.clap.specs.Words.{found_of, rows_of}
use Rattle.command_line.specs.Told.{is_misformed}
use Rattle.command_line.proofs.Finds.{FoundFrom}
use Rattle.command_line.proofs.told.first_misformed.Given as goal

abbrev pub invariant-loop-argument : goal.invariant-loop-argument
invariant-loop-argument l = FoundFrom (is_misformed (rows_of (found_of l.matches))) l.arguments l.argument-index
