use Rattle.std.proofs.Common.{◌∙◌, arith}
use Rattle.sweep_solver.proofs.UsedTours.{at_end, at_first, at_length, goes_on}
use Rattle.sweep_solver.proofs.resort.tour_from.Goals as goal

pub loop-calls-init : goal.loop-calls-init
loop-calls-init c =
    record {
      low = c.requires.low;
      way = λ used is.
          at_first c.args.ctx.now c.calls-n.ensures.single c.args.first used is c.new-calls.result.items c.new-calls.ensures.items;
    }

pub returns-then-place-n : goal.returns-then-place-n
returns-then-place-n c used is =
    c.from_calls.ensures
    ∙ at_end c.args.ctx.now c.calls-n.ensures.single c.args.first used is c.loop-calls.calls.items c.loop-calls.place
    (omega (arith, c.calls-n.ensures.value, c.if-place-n.true)) (c.loop-calls.invariant.way used is)

pub loop-calls-preserved : goal.loop-calls-preserved
loop-calls-preserved c =
    record {
      low = c.next_used-place.ensures.low;
      way = λ used is.
          goes_on c.args.ctx.now c.calls-n.ensures.single c.args.first used is c.loop-calls.calls.items c.push.new.self.items
          c.loop-calls.place c.next_used-place.result (omega (arith, c.calls-n.ensures.value, c.if-place-n.false))
          c.next_used-place.ensures.used c.in_ok-push.ensures.items (c.loop-calls.invariant.way used is);
    }

pub returns : goal.returns
returns c used is =
    c.from_calls-2.ensures
    ∙ at_length c.args.ctx.now c.calls-n.ensures.single c.args.first used is c.loop-calls.calls.items c.loop-calls.place
    (omega (arith, c.calls-n.ensures.value, c.len.ensures, c.loop-calls.calls.ok, c.loop-calls-test.false))
    (c.loop-calls.invariant.way used is)
