-- Lists of tours, late or not: those of a plan, and those that are left without a call.
use Rattle.std.proofs.Common.{ℕ, zero, suc, ◌≤◌, Bool, true, false, cond, not, nat_eq, List, [], ◌∷◌, length, arith}
use Rattle.std.proofs.lemmas.List.Sums.{sum_by-cons}
use Rattle.std.specs.List.{AllByRecursion, filter}
use Rattle.orienteering.specs.Instance.{Problem, calls, IsCall}
use Rattle.orienteering.specs.Limits.{IsInstance}
use Rattle.orienteering.specs.Tour.{IsFeasibleTour, IsPlan, tour_time, plan_time}
use Rattle.insert_heur.specs.Places.{tour_at, spent_at}
use Rattle.insert_heur.specs.Walk.{AreTours}
use Rattle.insert_heur.specs.Improvement.{before_others, without_call}
use Rattle.insert_heur.proofs.PlanCalls.{tour_length-le}

plan_calls : (p : Problem) (plan : List (List ℕ)) → AllByRecursion (IsFeasibleTour p) plan →
    AllByRecursion (AllByRecursion (IsCall p)) plan
plan_calls p [] a = tt
plan_calls p (t ∷ ts) a = (a.0.calls, plan_calls p ts a.1)

plan_short : (p : Problem) (plan : List (List ℕ)) → calls p ≤ 300 → AllByRecursion (IsFeasibleTour p) plan →
    AllByRecursion (λ t. length t ≤ 300) plan
plan_short p [] few a = tt
plan_short p (t ∷ ts) few a = (omega (arith, few, tour_length-le p t a.0), plan_short p ts few a.1)

-- those of a plan
pub plan_tours : (p : Problem) (plan : List (List ℕ)) → IsInstance p → IsPlan p plan → AreTours p plan
plan_tours p plan i h =
    record {
      calls = plan_calls p plan h.feasible;
      short = plan_short p plan (omega (arith, i.few_calls)) h.feasible;
      few = omega (arith, i.few_members, h.members);
    }

kept_all : (P : ℕ → Type 0) (test : ℕ → Bool) (xs : List ℕ) → AllByRecursion P xs → AllByRecursion P (filter test xs)
kept_all P test [] a = tt
kept_all P test (x ∷ xs) a =
    elim (test x) as (λ b. AllByRecursion P (cond b (x ∷ filter test xs) (filter test xs))) [
      | true ↦ (a.0, kept_all P test xs a.1)
      | false ↦ kept_all P test xs a.1
    ]

kept_few : (test : ℕ → Bool) (xs : List ℕ) → length (filter test xs) ≤ length xs
kept_few test [] = omega arith
kept_few test (x ∷ xs) =
    elim (test x) as (λ b. length (cond b (x ∷ filter test xs) (filter test xs)) ≤ suc (length xs)) [
      | true ↦ omega (arith, kept_few test xs)
      | false ↦ omega (arith, kept_few test xs)
    ]

before_all : (P : List ℕ → Type 0) (t : List ℕ) (ts : List (List ℕ)) → P t → AllByRecursion P ts →
    AllByRecursion P (before_others t ts)
before_all P [] ts h a = a
before_all P (c ∷ cs) ts h a = (h, a)

before_few : (t : List ℕ) (ts : List (List ℕ)) → length (before_others t ts) ≤ suc (length ts)
before_few [] ts = omega arith
before_few (c ∷ cs) ts = omega arith

rest_calls : (p : Problem) (call : ℕ) (tours : List (List ℕ)) → AllByRecursion (AllByRecursion (IsCall p)) tours →
    AllByRecursion (AllByRecursion (IsCall p)) (without_call tours call)
rest_calls p call [] a = tt
rest_calls p call (t ∷ ts) a =
    before_all (AllByRecursion (IsCall p)) (filter (λ c. not (nat_eq c call)) t) (without_call ts call)
    (kept_all (IsCall p) (λ c. not (nat_eq c call)) t a.0) (rest_calls p call ts a.1)

rest_short : (call : ℕ) (tours : List (List ℕ)) → AllByRecursion (λ t. length t ≤ 300) tours →
    AllByRecursion (λ t. length t ≤ 300) (without_call tours call)
rest_short call [] a = tt
rest_short call (t ∷ ts) a =
    before_all (λ t. length t ≤ 300) (filter (λ c. not (nat_eq c call)) t) (without_call ts call)
    (omega (arith, a.0, kept_few (λ c. not (nat_eq c call)) t)) (rest_short call ts a.1)

rest_few : (call : ℕ) (tours : List (List ℕ)) → length (without_call tours call) ≤ length tours
rest_few call [] = omega arith
rest_few call (t ∷ ts) =
    omega (arith, rest_few call ts, before_few (filter (λ c. not (nat_eq c call)) t) (without_call ts call))

-- those that are left without a call
pub rest_tours : (p : Problem) (call : ℕ) (tours : List (List ℕ)) → AreTours p tours → AreTours p (without_call tours call)
rest_tours p call tours a =
    record {
      calls = rest_calls p call tours a.calls;
      short = rest_short call tours a.short;
      few = omega (arith, a.few, rest_few call tours);
    }

-- the calls of one of them
pub tour_calls : (p : Problem) (tours : List (List ℕ)) (tour : ℕ) → AllByRecursion (AllByRecursion (IsCall p)) tours →
    AllByRecursion (IsCall p) (tour_at tours tour)
tour_calls p [] zero a = tt
tour_calls p [] (suc tour) a = tt
tour_calls p (t ∷ ts) zero a = a.0
tour_calls p (t ∷ ts) (suc tour) a = tour_calls p ts tour a.1

-- one of them travels no more than all
pub spent_at-le : (p : Problem) (tours : List (List ℕ)) (tour : ℕ) → spent_at p tours tour ≤ plan_time p tours
spent_at-le p [] tour = omega arith
spent_at-le p (t ∷ ts) zero = omega (arith, sum_by-cons (tour_time p) t ts)
spent_at-le p (t ∷ ts) (suc tour) = omega (arith, sum_by-cons (tour_time p) t ts, spent_at-le p ts tour)
