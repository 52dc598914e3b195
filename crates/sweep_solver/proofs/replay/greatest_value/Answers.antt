use Rattle.std.proofs.Common.{◌^◌, sym, subst}
use Rattle.std.specs.Prelude.{MatchOption}
use Rattle.price_bound.specs.Magnitude.{IsWithin}
use Rattle.sweep_solver.proofs.replay.greatest_value.Goals as goal

pub returns-clause-within : goal.returns-clause-within
returns-clause-within c =
    subst (λ s. MatchOption s (Unit {0}) (IsWithin (10 ^ 24))) (sym c.value_of.ensures) c.in_ok-outcome.ensures.within
