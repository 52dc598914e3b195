use Rattle.std.proofs.Common.{◌∙◌, sym}
use Rattle.clap.specs.Words.{found_of, rows_of}
use Rattle.command_line.specs.Told.{is_missing}
use Rattle.command_line.specs.declared.argument.Argument.TheVariants.{Instance}
use Rattle.command_line.proofs.Finds.{found_here, found_later, found_nowhere}
use Rattle.command_line.proofs.told.first_missing.Goals as goal

pub loop-argument-preserved : goal.loop-argument-preserved
loop-argument-preserved c =
    found_later (is_missing (rows_of (found_of c.args.matches.now))) c.args.arguments.now c.loop-argument.argument-index Instance
    c.loop-argument-test.true c.loop-argument.invariant (sym c.is_missing.ensures ∙ c.if-is_missing.false)

pub returns : goal.returns
returns c = sym (found_nowhere (is_missing (rows_of (found_of c.args.matches.now))) c.args.arguments.now c.loop-argument.argument-index
    c.loop-argument-test.false c.loop-argument.invariant)

pub returns-then-is_missing : goal.returns-then-is_missing
returns-then-is_missing c =
    sym (found_here (is_missing (rows_of (found_of c.args.matches.now))) c.args.arguments.now c.loop-argument.argument-index Instance
    c.loop-argument-test.true c.loop-argument.invariant (sym c.is_missing.ensures ∙ c.if-is_missing.true))
