use Rattle.std.proofs.Common.{◌≡◌, false, length, ap, sym, ◌∙◌, arith, Some, to_z, of_z, get_or, true, rules, ◌-ℤ◌}
use Rattle.orienteering.specs.Price.{weighted, prices_of}
use Rattle.std.specs.Int.{w128}
use Rattle.std.proofs.lemmas.Int.{ints}
use Rattle.dual_master.proofs.Values.{given, open_given, calls_within}
use Rattle.dual_master.proofs.rating.open_value.Goals as goal

pub value-requires-clause-profit : goal.value-requires-clause-profit
value-requires-clause-profit c =
    let g = given c.args.inst.now c.calls.ensures.instance c.args.pool.now c.requires.pool c.args.place c.in-Some.tour.now c.in-Some.point c.in-Some.ensures.column in
    let same = ap (λ v. v.profit) g.point_is in
    omega (arith, same, g.limits.profit)

pub value-requires-clause-time : goal.value-requires-clause-time
value-requires-clause-time c =
    let g = given c.args.inst.now c.calls.ensures.instance c.args.pool.now c.requires.pool c.args.place c.in-Some.tour.now c.in-Some.point c.in-Some.ensures.column in
    let same = ap (λ v. v.time) g.point_is in
    omega (arith, same, g.limits.time)

pub value-requires-clause-within : goal.value-requires-clause-within
value-requires-clause-within c =
    let g = given c.args.inst.now c.calls.ensures.instance c.args.pool.now c.requires.pool c.args.place c.in-Some.tour.now c.in-Some.point c.in-Some.ensures.column in
    rw c.calls-in-Some.ensures (calls_within c.args.inst.now c.in-Some.tour.now (length c.args.table.now) c.requires.table.size g.feasible.calls)

pub returns-in-Some : goal.returns-in-Some
returns-in-Some c =
    let g = given c.args.inst.now c.calls.ensures.instance c.args.pool.now c.requires.pool c.args.place c.in-Some.tour.now c.in-Some.point c.in-Some.ensures.column in
    let same : to_z w128 (of_z w128 c.value.result) ≡ c.value.result = omega (arith, ints) in
    let flag : get_or c.args.allowed.now c.args.place false ≡ true = search rules in
    ap Some (same ∙ c.value.ensures)
    ∙ ap (λ tour. Some (weighted c.args.price.now c.in-Some.point -ℤ prices_of c.args.price.now.pi tour)) c.calls-in-Some.ensures
    ∙ open_given c.args.inst.now c.args.ctx.now c.args.price.now c.args.pool.now c.args.place c.in-Some.tour.now c.in-Some.point false g (sym (ap (λ flags. get_or flags c.args.place false) c.requires.allowed) ∙ flag)
