use Rattle.std.proofs.Common.{◌≡◌, ◌+◌, pos, ◌*ℤ◌, get_or, ap, ◌∙◌, arith, to_z, of_z}
use Rattle.std.specs.Int.{w128}
use Rattle.std.proofs.lemmas.Int.{ints}
use Rattle.std.proofs.lemmas.List.Sums.{sum_by_more, sum_by-take-le}
use Rattle.std.proofs.Math.Nat.{mul-le-mul_right}
use Rattle.dual_master.specs.Shares.{whole_tour}
use Rattle.dual_master.proofs.Balance.{worth_of-more}
use Rattle.dual_master.proofs.shares.worth_of.Goals as goal

pub loop-share-preserved : goal.loop-share-preserved
loop-share-preserved c =
    let shares = c.args.shares.now in
    let i = c.loop-share.share-index in
    let more = worth_of-more c.args.price.now c.args.pool.now shares i (0, 0) c.loop-share-test.true in
    let parts = sum_by_more (λ s. s.1) shares i (0, 0) c.loop-share-test.true in
    let exact : to_z w128 (of_z w128 c.worth_at.result) ≡ c.worth_at.result = omega (arith, ints) in
    let term = c.parts_worth-sum.ensures.value ∙ ap (λ w. pos (get_or shares i (0, 0)).1 *ℤ w) (exact ∙ c.worth_at.ensures.value) in
    let within = sum_by-take-le (λ s. s.1) shares (i + 1) in
    let few = mul-le-mul_right whole_tour c.requires.few in
    let all = c.requires.shares.all_tours in
    let so_far = c.loop-share.invariant.within in
    let here = c.parts_worth-sum.ensures.within in
    record { value = omega (arith, ints, more, term, parts, within, few, all, so_far, here); within = omega (arith, ints, parts, within, few, all, so_far, here) }
