use Rattle.std.proofs.Common.{◌≡◌, Some, sym, ap, ◌∙◌, subst}
use Rattle.std.specs.Option.{option_map}
use Rattle.orienteering.specs.Instance.{IsCall}
use Rattle.label_engine.specs.Cut.{flag_of, marked, flagged_between}
use Rattle.label_engine.proofs.Flagged.{flag_fits, visit_at}
use Rattle.label_engine.proofs.flagged_moves.FlaggedMoves.step_to.Goals as goal

pub flagged-requires : goal.flagged-requires
flagged-requires c =
    let cut = c.self.inside.cut in
    let is_call = subst (λ m. IsCall m.problem c.args.to) (sym c.self.view_is) c.requires.to in
    let visit = visit_at cut c.self.inside.visits.items c.self.invariant.1 c.args.to c.index-visit.result.now is_call c.index-visit.ensures in
    λ n e. flag_fits cut c.self.invariant.0 c.args.to n (sym visit.0 ∙ e)

pub returns-in-Some : goal.returns-in-Some
returns-in-Some c =
    let cut = c.self.inside.cut in
    let is_call = subst (λ m. IsCall m.problem c.args.to) (sym c.self.view_is) c.requires.to in
    let visit = visit_at cut c.self.inside.visits.items c.self.invariant.1 c.args.to c.index-visit.result.now is_call c.index-visit.ensures in
    let made = c.flagged.ensures ∙ ap (λ flag. marked flag c.in-Some.step) visit.0 in
    subst (λ m. Some c.flagged.result ≡ flagged_between m c.args.from c.args.to) c.self.view_is
    (ap (λ step. Some step) made ∙ ap (option_map (marked (flag_of cut.critical c.args.to))) (sym c.in-Some.is ∙ c.step_to.ensures))
