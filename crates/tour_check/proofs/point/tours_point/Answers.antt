use Rattle.std.proofs.Common.{ap, length, ◌+◌, ◌≡◌, arith}
use Rattle.orienteering.specs.Tour.{tour_profit, tour_time}
use Rattle.tour_check.proofs.Sums.{one_tour_more}
use Rattle.tour_check.proofs.point.tours_point.Goals as goal

pub tour_profit-profit-requires-clause-few : goal.tour_profit-profit-requires-clause-few
tour_profit-profit-requires-clause-few c =
    let more = one_tour_more c.args.inst.now c.args.tours.now c.requires c.loop-tour.tour-index c.tour-item.result c.loop-tour-test.true c.tour-item.is in
    omega (arith, more.calls_so_far, more.calls_bound, c.calls-calls.ensures.value, c.calls-calls.ensures.within, ap length c.calls.ensures)

pub overflow_add-profit : goal.overflow_add-profit
overflow_add-profit c =
    let more = one_tour_more c.args.inst.now c.args.tours.now c.requires c.loop-tour.tour-index c.tour-item.result c.loop-tour-test.true c.tour-item.is in
    omega (arith, more.calls_so_far, more.calls_bound, c.calls-calls.ensures.value, c.calls-calls.ensures.within, ap length c.calls.ensures)

pub tour_time-time-requires-clause-few : goal.tour_time-time-requires-clause-few
tour_time-time-requires-clause-few c =
    let more = one_tour_more c.args.inst.now c.args.tours.now c.requires c.loop-tour.tour-index c.tour-item.result c.loop-tour-test.true c.tour-item.is in
    omega (arith, more.calls_so_far, more.calls_bound, c.calls-calls.ensures.value, c.calls-calls.ensures.within, ap length c.calls-in-loop-tour.ensures)

pub overflow_add-time : goal.overflow_add-time
overflow_add-time c =
    let more = one_tour_more c.args.inst.now c.args.tours.now c.requires c.loop-tour.tour-index c.tour-item.result c.loop-tour-test.true c.tour-item.is in
    omega (
      arith,
      more.calls_so_far,
      more.calls_bound,
      c.calls-calls.ensures.value,
      c.calls-calls.ensures.within,
      c.team-team.ensures.value,
      c.team-team.ensures.within,
      c.requires.members,
      ap length c.calls-in-loop-tour.ensures,
    )

pub loop-tour-preserved : goal.loop-tour-preserved
loop-tour-preserved c =
    let more = one_tour_more c.args.inst.now c.args.tours.now c.requires c.loop-tour.tour-index c.tour-item.result c.loop-tour-test.true c.tour-item.is in
    record {
      profit = omega (arith, more.profit, c.tour_profit-profit.ensures.value, ap (tour_profit c.args.inst.now) c.calls.ensures);
      time = omega (arith, more.time, c.tour_time-time.ensures.value, ap (tour_time c.args.inst.now) c.calls-in-loop-tour.ensures);
      profit_limit = omega (arith, more.calls_so_far, ap length c.calls.ensures);
      time_limit = omega (arith, more.calls_so_far, ap length c.calls-in-loop-tour.ensures);
    }
