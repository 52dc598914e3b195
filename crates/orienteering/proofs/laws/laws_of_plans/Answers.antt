use Rattle.orienteering.proofs.PlanCheck.{tours_are_accepted, plans_are_accepted}
use Rattle.orienteering.proofs.Points.{whole}
use Rattle.orienteering.proofs.laws.laws_of_plans.Goals as goal

pub returns : goal.returns
returns c = record { tours = tours_are_accepted; plans = plans_are_accepted; whole = whole }
