use Rattle.std.proofs.Common.{◌≡◌, ap, sym, ◌∙◌, arith, to_z, of_z}
use Rattle.std.specs.Int.{w128}
use Rattle.std.proofs.lemmas.Int.{ints}
use Rattle.orienteering.specs.Price.{weighted}
use Rattle.dual_master.proofs.Values.{given}
use Rattle.dual_master.proofs.shares.worth_at.Goals as goal

pub weighted-requires-clause-profit : goal.weighted-requires-clause-profit
weighted-requires-clause-profit c =
    let g = given c.args.inst.now c.calls.ensures.instance c.args.pool.now c.requires.pool c.args.place c.in-Some.field-0-0.now c.in-Some.point c.in-Some.ensures.column in
    let same = ap (λ v. v.profit) g.point_is in
    omega (arith, same, g.limits.profit)

pub weighted-requires-clause-time : goal.weighted-requires-clause-time
weighted-requires-clause-time c =
    let g = given c.args.inst.now c.calls.ensures.instance c.args.pool.now c.requires.pool c.args.place c.in-Some.field-0-0.now c.in-Some.point c.in-Some.ensures.column in
    let same = ap (λ v. v.time) g.point_is in
    omega (arith, same, g.limits.time)

pub returns-in-Some-clause-value : goal.returns-in-Some-clause-value
returns-in-Some-clause-value c =
    let g = given c.args.inst.now c.calls.ensures.instance c.args.pool.now c.requires.pool c.args.place c.in-Some.field-0-0.now c.in-Some.point c.in-Some.ensures.column in
    let same : to_z w128 (of_z w128 c.weighted.result) ≡ c.weighted.result = omega (arith, ints) in
    same ∙ c.weighted.ensures.value ∙ sym (ap (λ v. weighted c.args.price.now v.1) g.there)
