use Rattle.std.proofs.Common.{arith}
use Rattle.std.proofs.lemmas.List.{take_more}
use Rattle.dual_master.specs.Shares.{column, no_column}
use Rattle.dual_master.proofs.Values.{sigma_more}
use Rattle.dual_master.proofs.rating.greatest_value.Goals as goal

pub loop-place-preserved : goal.loop-place-preserved
loop-place-preserved c =
    let pool = c.args.pool.now in
    let place = c.loop-place.place in
    let more = sigma_more c.args.inst.now c.args.ctx.now c.args.price.now _ (column pool place) c.loop-place.sigma c.loop-place.invariant in
    rw (c.better-sigma.ensures, c.open_value-found.ensures, take_more pool place no_column (omega arith)) more
