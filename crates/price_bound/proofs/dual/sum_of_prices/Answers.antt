use Rattle.std.proofs.Common.{pos, arith}
use Rattle.std.proofs.lemmas.Int.{ints}
use Rattle.price_bound.proofs.Sums.{sum_of_prices-more}
use Rattle.price_bound.proofs.dual.sum_of_prices.Goals as goal

pub loop-entry-preserved : goal.loop-entry-preserved
loop-entry-preserved c =
    let more = sum_of_prices-more c.args.entries.now c.loop-entry.entry-index (0, pos 0) c.loop-entry-test.true in
    record { value = omega (arith, ints); within = omega (arith, ints) }
