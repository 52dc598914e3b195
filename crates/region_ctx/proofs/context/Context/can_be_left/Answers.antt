use Rattle.std.proofs.Common.{sym, arith, ◌+◌}
use Rattle.orienteering.specs.Region.{is_open}
use Rattle.region_ctx.proofs.Ranges.{one_in_range, none_in_range}
use Rattle.region_ctx.proofs.context.Context.can_be_left.Goals as goal

pub returns-then-is_open : goal.returns-then-is_open
returns-then-is_open c =
    sym (one_in_range (is_open c.args.self.now c.args.call) 1 (c.args.self.now.calls + 1) c.loop-j.j c.loop-j.auto.j (omega arith) (sym c.if-is_open.ensures))

pub returns : goal.returns
returns c =
    sym (none_in_range (is_open c.args.self.now c.args.call) 1 (c.args.self.now.calls + 1) (λ k low high. c.loop-j.invariant k low (omega arith)))
