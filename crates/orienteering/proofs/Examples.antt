-- The definitions, computed on small instances.
use Rattle.std.proofs.Common.{refl}
use Rattle.orienteering.specs.Instance.{travel, distance, scaled_length, greatest_passing}
use Rattle.orienteering.specs.Lists.{lists_of}
use Rattle.orienteering.specs.Sigma.{sigma, undominated}
use Rattle.orienteering.specs.Examples.{WorkedValues}

pub worked_values : WorkedValues
unfolding travel distance scaled_length greatest_passing sigma undominated lists_of
worked_values =
    record {
      far = refl;
      fine = refl;
      too_long = refl;
      just_in_time = refl;
      shared = refl;
      most_profit = refl;
      least_time = refl;
      four_states = refl;
      two_states = refl;
      none_critical = refl;
      one_critical = refl;
      two_critical = refl;
      waits = refl;
    }
