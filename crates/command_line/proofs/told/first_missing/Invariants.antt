use Rattle.clap.specs.Words.{found_of, rows_of}
use Rattle.command_line.specs.Told.{is_missing}
use Rattle.command_line.proofs.Finds.{FoundFrom}
use Rattle.command_line.proofs.told.first_missing.Given as goal

abbrev pub invariant-loop-argument : goal.invariant-loop-argument
invariant-loop-argument l = FoundFrom (is_missing (rows_of (found_of l.matches))) l.arguments l.argument-index
