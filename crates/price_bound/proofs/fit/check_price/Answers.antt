use Rattle.std.proofs.Common.{◌≡◌, ℕ, None, sym, ap, ◌∙◌}
use Rattle.orienteering.specs.Instance.{calls}
use Rattle.orienteering.specs.Price.{price_refusal}
use Rattle.orienteering.specs.Region.{is_forced}
use Rattle.orienteering.proofs.PriceTests.{price_right}
use Rattle.price_bound.proofs.fit.check_price.Goals as goal

pub returns-in-None-clause-fit : goal.returns-in-None-clause-fit
returns-in-None-clause-fit c =
    price_right c.args.inst.now (is_forced c.args.ctx.now) c.args.price.now
    (ap (λ (n : ℕ). price_refusal n (is_forced c.args.ctx.now) c.args.price.now) (sym c.requires) ∙ sym c.price_refusal.ensures ∙ c.in-None.is)
