use Rattle.std.proofs.Common.{◌≡◌, ◌+◌, ◌*◌, length, subst, sym, arith}
use Rattle.dual_master.specs.Shares.{IsBalanced}
use Rattle.dual_master.proofs.Balance.{nothing_granted}
use Rattle.dual_master.proofs.shares.limited.Goals as goal

pub loop-place-init : goal.loop-place-init
loop-place-init c =
    let room = c.in_ok-room.room in
    let size : length room.items ≡ c.args.ctx.now.calls + 1 = omega (arith, room.ok.0, c.in_ok-room.ensures.size, c.calls.ensures.value) in
    subst (λ most. IsBalanced c.args.inst.now c.args.ctx.now c.args.pool.now 0 room.items (most * 1000000) c.new-shares.result.items) (sym c.counts-most.ensures.most)
    (subst (IsBalanced c.args.inst.now c.args.ctx.now c.args.pool.now 0 room.items (c.args.ctx.now.most * 1000000)) (sym c.new-shares.ensures.items)
    (nothing_granted c.args.inst.now c.args.ctx.now c.args.pool.now room.items size c.in_ok-room.ensures.values))
