use Rattle.std.proofs.Common.{◌≡◌, pos, ◌*ℤ◌, ◌-ℤ◌, ap, sym, subst, ◌∙◌, rules, arith, to_z, of_z}
use Rattle.std.specs.Int.{w128}
use Rattle.std.proofs.lemmas.Int.{ints}
use Rattle.dual_master.specs.Candidate.{IsNoWorse}
use Rattle.dual_master.specs.Shares.{worth_of}
use Rattle.dual_master.proofs.Best.{no_worse, gap_is}
use Rattle.dual_master.proofs.master.improve.Goals as goal

pub returns-clause-bound : goal.returns-clause-bound
returns-clause-bound c =
    let p = c.args.inst.now in
    let r = c.args.ctx.now in
    let pool = c.args.pool.now in
    let start = c.args.start.now in
    let begun = c.in_ok-begun.begun in
    let best = c.in_ok-best.best in
    let worse = no_worse p r pool start begun.price begun.sigma begun.bound best.bound (search rules) c.in_ok-begun.ensures.rated c.in_ok-best.ensures.bound in
    subst (IsNoWorse p r pool start) c.in_ok-best.ensures.rated.bound_is worse

pub returns-clause-gap : goal.returns-clause-gap
returns-clause-gap c =
    let rated = c.in_ok-best.ensures.rated in
    let small = rated.small in
    let within = c.worth_of-worth.ensures.within in
    let exact : to_z w128 (of_z w128 c.gap_between-gap.result) ≡ (pos 1000000 *ℤ c.in_ok-best.best.bound) -ℤ c.worth_of-worth.result = omega (arith, ints, c.gap_between-gap.ensures, small, within) in
    gap_is _ _ _ _ _ exact rated.bound_is
    (c.worth_of-worth.ensures.value ∙ ap (worth_of c.in_ok-best.best.price c.args.pool.now) (c.as_slice-6.ensures.value ∙ sym c.from_list.ensures))
