use Rattle.std.proofs.Common.{◌≡◌, Some, None, cond, rules, ap, ◌∙◌}
use Rattle.std.specs.Option.{is_some}
use Rattle.label_engine.specs.Cut.{mark_of, relaxed}
use Rattle.label_engine.proofs.Flagged.{is_some-flag_of}
use Rattle.label_engine.proofs.cut_moves.CutMoves.step_to.Goals as goal

pub returns : goal.returns
returns c =
    let m = c.args.self.now in
    let critical : c.is_some.result ≡ (relaxed m).critical c.args.to =
    c.is_some.ensures ∙ ap is_some c.requires.visit.0 ∙ is_some-flag_of m c.args.to in
    let marked : c.mark.result ≡ mark_of (relaxed m) c.args.to = c.mark.ensures ∙ ap (λ b. cond b (Some c.args.to) None) critical in
    search rules
