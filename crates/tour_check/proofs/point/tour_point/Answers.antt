use Rattle.std.proofs.Common.{length, ap, arith}
use Rattle.tour_check.proofs.Sums.{tour_length-le}
use Rattle.tour_check.proofs.point.tour_point.Goals as goal

pub tour_profit-requires-clause-few : goal.tour_profit-requires-clause-few
tour_profit-requires-clause-few c =
    omega (arith, ap length c.calls.ensures, tour_length-le c.args.inst.now c.args.tour.now c.requires)

pub tour_time-requires-clause-few : goal.tour_time-requires-clause-few
tour_time-requires-clause-few c =
    omega (arith, ap length c.calls-2.ensures, tour_length-le c.args.inst.now c.args.tour.now c.requires)
