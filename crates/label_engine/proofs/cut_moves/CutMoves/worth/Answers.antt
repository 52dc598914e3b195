use Rattle.std.proofs.Common.{◌≡◌, ◌*◌, pos, rules, sym, ap, ◌∙◌, subst}
use Rattle.std.specs.Prelude.{FitsSigned}
use Rattle.std.specs.Int.{w64}
use Rattle.orienteering.specs.Instance.{travel}
use Rattle.orienteering.specs.Walk.{step_value}
use Rattle.label_engine.specs.Cut.{Cut, cut, IsVisit, relaxed}
use Rattle.label_engine.proofs.CutLimits.{fits_difference, read_difference, small_worth, worth_is}
use Rattle.label_engine.proofs.cut_moves.CutMoves.worth.Goals as goal

pub difference-requires : goal.difference-requires
difference-requires c =
    let inside = c.self.inside in
    let m : Cut = cut inside.inst.now inside.ctx.now inside.price.now inside.critical.now in
    let visit : IsVisit m c.args.to c.args.visit = subst (λ n. IsVisit n c.args.to c.args.visit) (sym c.self.view_is) c.requires.visit in
    let paid : c.weighted-paid.result ≡ pos (m.price.beta * travel m.problem c.args.from c.args.to) = c.weighted-paid.ensures.value ∙ ap (λ n. pos (m.price.beta * n)) c.length.ensures.value in
    let worth_fits : FitsSigned w64 c.args.visit.worth = search rules in
    let paid_fits : FitsSigned w64 c.weighted-paid.result = search rules in
    fits_difference c.args.visit.worth c.weighted-paid.result worth_fits paid_fits (small_worth m c.args.from c.args.to c.args.visit c.weighted-paid.result c.self.invariant visit paid)

pub returns : goal.returns
returns c =
    let inside = c.self.inside in
    let m : Cut = cut inside.inst.now inside.ctx.now inside.price.now inside.critical.now in
    let visit : IsVisit m c.args.to c.args.visit = subst (λ n. IsVisit n c.args.to c.args.visit) (sym c.self.view_is) c.requires.visit in
    let paid : c.weighted-paid.result ≡ pos (m.price.beta * travel m.problem c.args.from c.args.to) = c.weighted-paid.ensures.value ∙ ap (λ n. pos (m.price.beta * n)) c.length.ensures.value in
    let worth_fits : FitsSigned w64 c.args.visit.worth = search rules in
    let paid_fits : FitsSigned w64 c.weighted-paid.result = search rules in
    let fits : FitsSigned w64 c.difference.result = search rules in
    read_difference c.difference.result c.args.visit.worth c.weighted-paid.result fits worth_fits paid_fits c.difference.ensures ∙
    worth_is m c.args.from c.args.to c.args.visit c.weighted-paid.result visit paid ∙
    ap (λ n. step_value n.problem (relaxed n) c.args.from c.args.to) c.self.view_is
