use Rattle.std.proofs.Common.{◌<◌, length, get_or, arith}
use Rattle.std.proofs.lemmas.Int.{ints}
use Rattle.dual_master.proofs.Lists.{AllByRecursion-at}
use Rattle.dual_master.proofs.Tables.{prices_of-more}
use Rattle.dual_master.proofs.rating.prices_along.Goals as goal

pub loop-call-preserved : goal.loop-call-preserved
loop-call-preserved c =
    let within : get_or c.args.calls.now c.loop-call.call-index 0 < length c.args.table.now = AllByRecursion-at (λ j. j < length c.args.table.now) c.args.calls.now c.loop-call.call-index 0 c.requires.within c.loop-call-test.true in
    let entry = c.requires.table.prices (get_or c.args.calls.now c.loop-call.call-index 0) (omega (arith, within)) in
    let more = prices_of-more c.args.price.now.pi c.args.calls.now c.loop-call.call-index 0 c.loop-call-test.true in
    record { value = omega (arith, ints); within = omega (arith, ints) }
