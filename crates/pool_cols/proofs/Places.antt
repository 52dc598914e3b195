-- What a pool holds after a tour is added.
use Rattle.std.proofs.Common.{◌≡◌, ℕ, Bool, true, false, List, [], ◌∷◌, ◌++◌, Option, None, Some, is_some, true≢false, refl, ap, sym, if◌then◌else◌}
use Rattle.std.specs.List.{list_any}
use Rattle.std.specs.declared.result.Result.{Result}
use Rattle.std.specs.declared.result.Result.TheVariants.{Ok, Err}
use Rattle.orienteering.specs.Instance.{Problem}
use Rattle.orienteering.specs.Tour.{IsFeasibleTour}
use Rattle.orienteering.specs.PlanCheck.{tour_point, tour_refusal, tour_value}
use Rattle.orienteering.specs.declared.Point.{Point}
use Rattle.orienteering.specs.declared.TourRefusal.{TourRefusal}
use Rattle.orienteering.proofs.PlanCheck.{tour_right}
use Rattle.orienteering.proofs.Lists.{AllByRecursion-push}
use Rattle.pool_cols.specs.Pool.{Column, IsColumnOf, IsPoolOf, tours_of, same_calls, with_tour}

pub with_known : (p : Problem) (pool : List Column) (tour : List ℕ) → list_any (same_calls tour) (tours_of pool) ≡ true →
    pool ≡ with_tour p pool tour
with_known p pool tour h = sym (ap (λ b. if b then pool else pool ++ (tour, tour_point p tour) ∷ []) h)

pub with_new : (p : Problem) (pool : List Column) (tour : List ℕ) → list_any (same_calls tour) (tours_of pool) ≡ false →
    pool ++ (tour, tour_point p tour) ∷ [] ≡ with_tour p pool tour
with_new p pool tour h = sym (ap (λ b. if b then pool else pool ++ (tour, tour_point p tour) ∷ []) h)

pub none_from : {A : Type 0} (o : Option A) → is_some o ≡ false → o ≡ None
none_from None h = refl
none_from (Some a) h = absurd (true≢false h)

-- a pool of the instance stays one
pub kept_with : (p : Problem) (pool : List Column) (tour : List ℕ) → IsFeasibleTour p tour → IsPoolOf p pool →
    IsPoolOf p (with_tour p pool tour)
kept_with p pool tour feasible is =
    elim (list_any (same_calls tour) (tours_of pool)) as (λ (b : Bool).
    IsPoolOf p (if b then pool else pool ++ (tour, tour_point p tour) ∷ [])) [
      | true ↦ is
      | false ↦ AllByRecursion-push (IsColumnOf p) pool (tour, tour_point p tour) is (record { feasible = feasible; point = refl })
    ]

-- a tour that has a value is feasible
pub valued : (p : Problem) (tour : List ℕ) (v : Point) → tour_value p tour ≡ Ok v → IsFeasibleTour p tour
valued p tour v e =
    elim (tour_refusal p tour) as (λ (o : Option TourRefusal). tour_refusal p tour ≡ o →
    ◌≡◌ {A = Result Point TourRefusal} (elim o [ Some why ↦ Err why | None ↦ Ok (tour_point p tour) ]) (Ok v) →
    IsFeasibleTour p tour) [
      | Some why ↦ λ same h. absurd (cc)
      | None ↦ λ same h. tour_right p tour same
    ] refl e
