use Rattle.std.proofs.Common.{◌≡◌, ◌∙◌, None, ap, sym}
use Rattle.std.specs.Prelude.{is_some}
use Rattle.std.specs.List.{find}
use Rattle.clap.specs.Words.{found_of, rows_of}
use Rattle.command_line.specs.Lines.{arguments_of}
use Rattle.command_line.specs.Told.{is_misformed, is_missing}
use Rattle.command_line.proofs.Causes.{misformed_found}
use Rattle.command_line.proofs.told.refusal_given.Goals as goal

pub unwrap-requires : goal.unwrap-requires
unwrap-requires c =
    let rows = rows_of (found_of c.args.matches.now) in
    let missing : find (is_missing rows) (arguments_of c.args.name) ≡ None =
    sym (c.first_missing.ensures ∙ ap (find (is_missing rows)) c.line.ensures.arguments) ∙ c.in-None.is in
    ap is_some (c.first_misformed.ensures ∙ ap (find (is_misformed rows)) c.line.ensures.arguments)
    ∙ misformed_found c.args.name rows c.requires missing
