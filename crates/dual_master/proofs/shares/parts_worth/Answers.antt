use Rattle.std.proofs.Common.{◌≡◌, ◌^◌, ◌*◌, pos, ◌*ℤ◌, to_z, of_z, subst, sym, ap, ◌∙◌, arith}
use Rattle.std.specs.Int.{w128}
use Rattle.std.proofs.lemmas.Int.{ints}
use Rattle.price_bound.specs.Magnitude.{IsWithin}
use Rattle.dual_master.proofs.Balance.{times-within}
use Rattle.dual_master.proofs.shares.parts_worth.Goals as goal

pub returns-clause-within : goal.returns-clause-within
returns-clause-within c =
    let parts : to_z w128 (of_z w128 c.from.result) ≡ pos c.args.parts = omega (arith, ints) in
    let worth : to_z w128 (of_z w128 c.args.worth) ≡ c.args.worth = omega (arith, ints) in
    let within = times-within c.args.parts (2 * 10 ^ 17) c.args.worth c.requires in
    let exact : to_z w128 (of_z w128 (pos c.args.parts *ℤ c.args.worth)) ≡ pos c.args.parts *ℤ c.args.worth = omega (arith, ints, within) in
    let value = ap (λ a. to_z w128 (of_z w128 (a *ℤ to_z w128 (of_z w128 c.args.worth)))) parts ∙ ap (λ b. to_z w128 (of_z w128 (pos c.args.parts *ℤ b))) worth ∙ exact in
    subst (IsWithin (c.args.parts * (2 * 10 ^ 17))) (sym value) within
