use Rattle.std.proofs.Common.{◌∙◌, sym}
use Rattle.clap.specs.Words.{found_of, rows_of}
use Rattle.command_line.specs.Told.{is_misformed}
use Rattle.command_line.specs.declared.argument.Argument.TheVariants.{Instance}
use Rattle.command_line.proofs.Finds.{found_here, found_later, found_nowhere}
use Rattle.command_line.proofs.told.first_misformed.Goals as goal

pub loop-argument-preserved : goal.loop-argument-preserved
loop-argument-preserved c =
    found_later (is_misformed (rows_of (found_of c.args.matches.now))) c.args.arguments.now c.loop-argument.argument-index Instance
    c.loop-argument-test.true c.loop-argument.invariant (sym c.is_misformed.ensures ∙ c.if-is_misformed.false)

pub returns : goal.returns
returns c = sym (found_nowhere (is_misformed (rows_of (found_of c.args.matches.now))) c.args.arguments.now c.loop-argument.argument-index
    c.loop-argument-test.false c.loop-argument.invariant)

pub returns-then-is_misformed : goal.returns-then-is_misformed
returns-then-is_misformed c =
    sym (found_here (is_misformed (rows_of (found_of c.args.matches.now))) c.args.arguments.now c.loop-argument.argument-index Instance
    c.loop-argument-test.true c.loop-argument.invariant (sym c.is_misformed.ensures ∙ c.if-is_misformed.true))
