-- What an improved plan is: no one call moved to another place makes it cheaper.
use Rattle.std.specs.Prelude.{◌≡◌, ℕ, ◌≤◌, ◌<◌, Bool, true, false, not, List, [], ◌∷◌, length, nat_eq}
use Rattle.std.specs.List.{concat, filter}
use Rattle.orienteering.specs.Instance.{Problem}
use Rattle.orienteering.specs.Tour.{IsPlan, plan_time}
use Rattle.insert_heur.specs.Places.{tour_at, with_call}
use Rattle.orienteering.specs.PlanCheck.{is_one_of}

-- a tour in front of the others, unless it has no call
abbrev pub before_others : List ℕ → List (List ℕ) → List (List ℕ)
before_others [] ts = ts
before_others (c ∷ cs) ts = (c ∷ cs) ∷ ts

-- the plan with the call taken out; a tour that is left empty is dropped
abbrev pub without_call : List (List ℕ) → ℕ → List (List ℕ)
without_call [] call = []
without_call (t ∷ ts) call = before_others (filter (λ c. not (nat_eq c call)) t) (without_call ts call)

-- the call taken out and put back at one place
abbrev pub moved : List (List ℕ) → ℕ → ℕ → ℕ → List (List ℕ)
moved plan call tour position = with_call (without_call plan call) call tour position

-- no plan made by moving one call has less time
abbrev pub IsSettled : Problem → List (List ℕ) → Type 0
IsSettled p plan =
    (call tour position : ℕ) → is_one_of (concat plan) call ≡ true → tour ≤ length (without_call plan call) →
    position ≤ length (tour_at (without_call plan call) tour) → IsPlan p (moved plan call tour position) →
    plan_time p plan ≤ plan_time p (moved plan call tour position)

-- both visit the same calls
abbrev pub SameCalls : List (List ℕ) → List (List ℕ) → Type 0
SameCalls plan next = (call : ℕ) → is_one_of (concat next) call ≡ is_one_of (concat plan) call

-- a plan with the same calls and less time
pub record IsBetter (p : Problem) (plan next : List (List ℕ)) : Type 0 where
  pub valid : IsPlan p next
  pub same_calls : SameCalls plan next
  pub less : plan_time p next < plan_time p plan

pub record IsImproved (p : Problem) (plan next : List (List ℕ)) : Type 0 where
  pub valid : IsPlan p next
  pub same_calls : SameCalls plan next
  pub no_dearer : plan_time p next ≤ plan_time p plan
  pub settled : IsSettled p next

-- the call put back at this place makes no plan with less time
abbrev pub IsNoCheaper : Problem → ℕ → List (List ℕ) → ℕ → ℕ → ℕ → Type 0
IsNoCheaper p time rest call tour position =
    IsPlan p (with_call rest call tour position) → time ≤ plan_time p (with_call rest call tour position)

-- a plan with less time, made by putting the call back somewhere
pub record IsCheaper (p : Problem) (time : ℕ) (rest : List (List ℕ)) (call : ℕ) (next : List (List ℕ)) : Type 0 where
  pub valid : IsPlan p next
  pub less : plan_time p next < time
  pub place : (tour : ℕ) × (position : ℕ) × (next ≡ with_call rest call tour position)

-- the same for every position of a tour, and for every tour
abbrev pub IsNoCheaperInTour : Problem → ℕ → List (List ℕ) → ℕ → ℕ → Type 0
IsNoCheaperInTour p time rest call tour =
    (position : ℕ) → position ≤ length (tour_at rest tour) → IsNoCheaper p time rest call tour position

abbrev pub IsNoCheaperAnywhere : Problem → ℕ → List (List ℕ) → ℕ → Type 0
IsNoCheaperAnywhere p time rest call = (tour : ℕ) → tour ≤ length rest → IsNoCheaperInTour p time rest call tour

-- no move of this call saves time
abbrev pub IsSettledFor : Problem → List (List ℕ) → ℕ → Type 0
IsSettledFor p plan call =
    is_one_of (concat plan) call ≡ true → IsNoCheaperAnywhere p (plan_time p plan) (without_call plan call) call

-- a plan with the same calls after each of them was tried in turn, and whether some move saved time
pub record IsSwept (p : Problem) (plan next : List (List ℕ)) (better : Bool) : Type 0 where
  pub valid : IsPlan p next
  pub same_calls : SameCalls plan next
  pub no_dearer : plan_time p next ≤ plan_time p plan
  pub less : better ≡ true → plan_time p next < plan_time p plan
  pub settled : better ≡ false → IsSettled p next
