use Rattle.std.proofs.Common.{◌≡◌, ◌^◌, arith, sym, ◌∙◌, subst, to_z, of_z}
use Rattle.std.specs.Int.{w128}
use Rattle.std.proofs.lemmas.Int.{ints}
use Rattle.price_bound.specs.Magnitude.{IsWithin}
use Rattle.orienteering.specs.Instance.{calls}
use Rattle.dual_master.proofs.Values.{sigma-within, bound-within, wider}
use Rattle.dual_master.proofs.rating.rate.Goals as goal

pub bound-bound-requires-clause-sigma : goal.bound-bound-requires-clause-sigma
bound-bound-requires-clause-sigma c =
    wider c.greatest_value-sigma.result (10 ^ 20) (10 ^ 24) (omega arith)
    (sigma-within c.args.inst.now c.args.ctx.now c.args.price c.calls.ensures.instance c.requires.fit c.args.pool.now c.requires.pool c.greatest_value-sigma.result c.greatest_value-sigma.ensures)

pub returns-clause-rated : goal.returns-clause-rated
returns-clause-rated c =
    let same : to_z w128 (of_z w128 c.bound-bound.result) ≡ c.bound-bound.result = omega (arith, ints) in
    let is = same ∙ c.bound-bound.ensures in
    let proper = c.requires.proper in
    let limits = c.calls.ensures.instance in
    let most = proper.count_high in
    let team = limits.few_members in
    let counts = proper.counts in
    let small = bound-within (calls c.args.inst.now) c.args.ctx.now c.args.price c.greatest_value-sigma.result (omega (arith, proper.same_calls, c.calls.ensures.within, c.calls.ensures.value)) (omega arith) (omega arith) c.requires.fit
    (sigma-within c.args.inst.now c.args.ctx.now c.args.price limits c.requires.fit c.args.pool.now c.requires.pool c.greatest_value-sigma.result c.greatest_value-sigma.ensures) in
    record {
      fit = c.requires.fit;
      sigma_is = c.greatest_value-sigma.ensures;
      bound_is = is;
      small = subst (IsWithin (10 ^ 23)) (sym is) small;
      sigma_small =
          wider c.greatest_value-sigma.result (10 ^ 20) (10 ^ 24) (omega arith)
          (sigma-within c.args.inst.now c.args.ctx.now c.args.price limits c.requires.fit c.args.pool.now c.requires.pool c.greatest_value-sigma.result c.greatest_value-sigma.ensures);
    }
