use Rattle.std.proofs.Common.{◌∙◌, sym, arith, ◌+◌}
use Rattle.orienteering.specs.Instance.{travel}
use Rattle.orienteering.specs.Region.{is_used}
use Rattle.region_ctx.proofs.Ranges.{sum_none, sum_one}
use Rattle.region_ctx.proofs.context.Context.next_travel.Goals as goal

pub returns-in-None-clause-value : goal.returns-in-None-clause-value
returns-in-None-clause-value c =
    sym (sum_none (travel c.args.inst.now c.args.call) (is_used c.args.self.now c.args.call) 1 (c.args.self.now.calls + 1) c.in-None.ensures.none)

pub returns-in-Some-clause-value : goal.returns-in-Some-clause-value
returns-in-Some-clause-value c =
    c.length.ensures.value
    ∙ sym (sum_one (travel c.args.inst.now c.args.call) (is_used c.args.self.now c.args.call) 1 (c.args.self.now.calls + 1) c.in-Some.next
    c.in-Some.ensures.low (let high = c.in-Some.ensures.high in omega arith) c.in-Some.ensures.used c.in-Some.ensures.alone)
