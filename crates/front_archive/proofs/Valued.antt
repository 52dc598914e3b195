-- A plan whose value isn't refused is one.
use Rattle.std.proofs.Common.{◌≡◌, ℕ, List, refl}
use Rattle.std.specs.declared.option.Option.{Option}
use Rattle.std.specs.declared.option.Option.TheVariants.{None, Some}
use Rattle.std.specs.declared.result.Result.{Result}
use Rattle.std.specs.declared.result.Result.TheVariants.{Ok, Err}
use Rattle.orienteering.specs.Instance.{Problem}
use Rattle.orienteering.specs.Tour.{IsPlan}
use Rattle.orienteering.specs.Frontier.{point_of}
use Rattle.orienteering.specs.PlanCheck.{plan_refusal, plan_value}
use Rattle.orienteering.specs.declared.Point.{Point}
use Rattle.orienteering.specs.declared.PlanRefusal.{PlanRefusal}
use Rattle.orienteering.proofs.PlanCheck.{plan_right}

pub valued_plan : (p : Problem) (plan : List (List ℕ)) (v : Point) → plan_value p plan ≡ Ok v → IsPlan p plan
valued_plan p plan v e =
    elim (plan_refusal p plan) as (λ (o : Option PlanRefusal). plan_refusal p plan ≡ o →
    ◌≡◌ {A = Result Point PlanRefusal} (elim o [ Some why ↦ Err why | None ↦ Ok (point_of p plan) ]) (Ok v) → IsPlan p plan) [
      | Some why ↦ λ same h. absurd (cc)
      | None ↦ λ same h. plan_right p plan same
    ] refl e
