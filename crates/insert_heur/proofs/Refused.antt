-- A list of tours that has a value is a plan, and one that is refused is none.
use Rattle.std.proofs.Common.{◌≡◌, ℕ, ◌<◌, ◌≤◌, true, false, nat_lt, List, refl, ap, arith}
use Rattle.std.proofs.lemmas.Bool.Decides.{nat_tests}
use Rattle.std.specs.declared.option.Option.{Option}
use Rattle.std.specs.declared.option.Option.TheVariants.{None, Some}
use Rattle.std.specs.declared.result.Result.{Result}
use Rattle.std.specs.declared.result.Result.TheVariants.{Ok, Err}
use Rattle.orienteering.specs.Instance.{Problem}
use Rattle.orienteering.specs.Tour.{IsPlan, plan_time}
use Rattle.orienteering.specs.Frontier.{point_of}
use Rattle.orienteering.specs.PlanCheck.{plan_refusal, plan_value}
use Rattle.orienteering.specs.declared.Point.{Point}
use Rattle.orienteering.specs.declared.PlanRefusal.{PlanRefusal}
use Rattle.orienteering.proofs.PlanCheck.{plan_right, plans_are_accepted}

pub valued : (p : Problem) (plan : List (List ℕ)) (v : Point) → plan_value p plan ≡ Ok v →
    IsPlan p plan × (plan_time p plan ≡ v.time)
valued p plan v e =
    elim (plan_refusal p plan) as (λ (o : Option PlanRefusal). plan_refusal p plan ≡ o →
    ◌≡◌ {A = Result Point PlanRefusal} (elim o [ Some why ↦ Err why | None ↦ Ok (point_of p plan) ]) (Ok v) →
    IsPlan p plan × (plan_time p plan ≡ v.time)) [
      | Some why ↦ λ same h. absurd (cc)
      | None ↦ λ same h. let is : point_of p plan ≡ v = cc in (plan_right p plan same, ap (λ (x : Point). x.time) is)
    ] refl e

pub unvalued : (p : Problem) (plan : List (List ℕ)) (why : PlanRefusal) → plan_value p plan ≡ Err why → IsPlan p plan → ⊥
unvalued p plan why e h =
    elim (plan_refusal p plan) as (λ (o : Option PlanRefusal). plan_refusal p plan ≡ o →
    ◌≡◌ {A = Result Point PlanRefusal} (elim o [ Some refusal ↦ Err refusal | None ↦ Ok (point_of p plan) ]) (Err why) → ⊥) [
      | Some refusal ↦ λ same k. let accepted = (plans_are_accepted p plan).1 h in absurd (cc)
      | None ↦ λ same k. cc
    ] refl e

pub less : (a b : ℕ) → nat_lt a b ≡ true → a < b
less a b e = grind (arith, nat_tests)

pub not_less : (a b : ℕ) → nat_lt a b ≡ false → b ≤ a
not_less a b e = grind (arith, nat_tests)
