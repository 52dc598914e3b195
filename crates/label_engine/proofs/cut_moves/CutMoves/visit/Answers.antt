use Rattle.std.proofs.Common.{◌≤◌, ◌^◌, ◌-ℤ◌, rules, sym, ap, ◌∙◌, subst}
use Rattle.std.specs.Prelude.{unsigned_abs, FitsSigned}
use Rattle.std.specs.Int.{w64}
use Rattle.orienteering.specs.Price.{price_of}
use Rattle.orienteering.specs.Region.{is_forced}
use Rattle.label_engine.proofs.CutLimits.{fits_difference, small_price, visit_within}
use Rattle.label_engine.proofs.cut_moves.CutMoves.visit.Goals as goal

pub difference-requires : goal.difference-requires
difference-requires c =
    let inside = c.self.inside in
    let earned_fits : FitsSigned w64 c.weighted-earned.result = search rules in
    let price_fits : FitsSigned w64 c.price_of.result = search rules in
    let price_is = c.price_of.ensures ∙ ap (λ es. price_of es c.args.call) c.list.ensures in
    let small = subst (λ z. unsigned_abs z ≤ 10 ^ 17) (sym price_is) (small_price (is_forced inside.ctx.now) inside.price.now.pi c.args.call c.self.invariant.fit.prices) in
    fits_difference c.weighted-earned.result c.price_of.result earned_fits price_fits
    (subst (λ z. unsigned_abs (z -ℤ c.price_of.result) ≤ 10 ^ 18) (sym c.weighted-earned.ensures.value) (visit_within _ c.price_of.result c.weighted-earned.ensures.within small))
