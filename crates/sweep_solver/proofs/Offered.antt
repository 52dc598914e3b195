-- What an archive is after a list of tours was offered.
use Rattle.std.proofs.Common.{◌≡◌, ℕ, List, arith}
use Rattle.std.specs.declared.option.Option.{Option}
use Rattle.std.specs.declared.option.Option.TheVariants.{None, Some}
use Rattle.std.specs.declared.result.Result.{Result}
use Rattle.std.specs.declared.result.Result.TheVariants.{Ok, Err}
use Rattle.orienteering.specs.Instance.{Problem}
use Rattle.orienteering.specs.Tour.{IsPlan}
use Rattle.orienteering.specs.Frontier.{point_of, IsCovered}
use Rattle.orienteering.specs.PlanCheck.{plan_refusal, plan_value}
use Rattle.orienteering.specs.declared.Point.{Point}
use Rattle.orienteering.specs.declared.Listed.{Listed}
use Rattle.orienteering.specs.declared.PlanRefusal.{PlanRefusal}
use Rattle.orienteering.proofs.Lists.{AllByRecursion-from_contains}
use Rattle.orienteering.proofs.PlanCheck.{plans_are_accepted}
use Rattle.front_archive.specs.Archive.{HoldsTheBest}
use Rattle.growth.specs.Growth.{Improves}

pub improved : (p : Problem) (plan : List (List ℕ)) (held after : List Listed) → HoldsTheBest p plan held after → Improves held after
improved p plan held after best =
    record {
      covered = AllByRecursion-from_contains (λ (l : Listed). IsCovered l.point after) held (λ l is_held.
          best.still_covered l.point (l, is_held, record { profit = omega arith; time = omega arith }));
    }

-- the value of a plan isn't refused
pub not_refused : (p : Problem) (plan : List (List ℕ)) (why : PlanRefusal) → IsPlan p plan → plan_value p plan ≡ Err why → ⊥
not_refused p plan why is e =
    elim (plan_refusal p plan) as (λ (o : Option PlanRefusal). o ≡ None →
    ◌≡◌ {A = Result Point PlanRefusal} (elim o [ Some why ↦ Err why | None ↦ Ok (point_of p plan) ]) (Err why) → ⊥) [
      | Some w ↦ λ none h. cc
      | None ↦ λ none h. cc
    ] ((plans_are_accepted p plan).1 is) e
