use Rattle.std.proofs.Common.{◌∙◌, ap, ap₂, sym}
use Rattle.clap.specs.Words.{new_app, with_rule}
use Rattle.command_line.specs.Lines.{with_rules}
use Rattle.command_line.proofs.Rules.{rules_of, rules_of-more, with_rules-push}
use Rattle.command_line.proofs.line.simple_command.Goals as goal

pub loop-argument-preserved : goal.loop-argument-preserved
loop-argument-preserved c =
    let start = new_app c.args.line.word.now in
    let arguments = c.args.line.arguments.now in
    let i = c.loop-argument.argument-index in
    c.in_ok-command.ensures.shape c.clap_argument.ensures.local
    ∙ (ap₂ with_rule c.loop-argument.invariant c.clap_argument.ensures.rule
    ∙ (with_rules-push start (rules_of arguments i) _
    ∙ ap (with_rules start) (sym (rules_of-more arguments i _ c.loop-argument-test.true))))
