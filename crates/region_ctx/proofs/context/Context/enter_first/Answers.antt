use Rattle.std.proofs.Common.{◌≡◌, ap, arith, false, subst, sym}
use Rattle.orienteering.specs.Region.{Region, is_entered, is_left, MakesProgress}
use Rattle.region_ctx.proofs.Regions.{undecided_says}
use Rattle.region_ctx.proofs.context.Context.enter_first.Goals as goal

pub link-requires-clause-out : goal.link-requires-clause-out
link-requires-clause-out c low =
    let undecided = undecided_says c.args.self.now c.in-Arc.i c.in-Arc.j (subst (MakesProgress c.args.self.now) c.in-Arc.is c.requires) in
    subst (λ (r : Region). is_left r c.in-Arc.i ≡ false) (sym c.self.view_is) (undecided.out low)

pub link-requires-clause-into : goal.link-requires-clause-into
link-requires-clause-into c high =
    let undecided = undecided_says c.args.self.now c.in-Arc.i c.in-Arc.j (subst (MakesProgress c.args.self.now) c.in-Arc.is c.requires) in
    let calls_are = ap (λ (r : Region). r.calls) c.self.view_is in
    subst (λ (r : Region). is_entered r c.in-Arc.j ≡ false) (sym c.self.view_is) (undecided.into (omega (arith, high, calls_are)))
