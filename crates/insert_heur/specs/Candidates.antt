-- The candidates for an insertion: each call, tour and position with which the plan stays a plan, and the gain is above 0.
use Rattle.std.specs.Prelude.{ℕ, ◌+◌, ◌*◌, Bool, true, false, ◌&&◌, ℤ, pos, ◌-ℤ◌, int_lt, List, [], ◌∷◌, length, if◌then◌else◌, Option, None, Some}
use Rattle.std.specs.List.{filter_map, flat_map, range_with_len}
use Rattle.std.specs.Ordering.{flip_args, int_cmp, nat_cmp, on, then_cmp, is_lt}
use Rattle.std.specs.declared.cmp.Ordering.{Ordering}
use Rattle.orienteering.specs.Instance.{Problem, site, calls}
use Rattle.orienteering.specs.Tour.{plan_time}
use Rattle.insert_heur.specs.Places.{tour_at, with_call}
use Rattle.orienteering.specs.PlanCheck.{plan_refusal}
use Rattle.insert_heur.specs.declared.candidates.Weight.{Weight}
use Rattle.insert_heur.specs.declared.candidates.Candidate.{Candidate}

-- nothing is refused of the plan
abbrev pub is_plan : Problem → List (List ℕ) → Bool
is_plan p plan = elim (plan_refusal p plan) [ None ↦ true | Some why ↦ false ]

-- what the weighted profit gains over the weighted travel that is added: the travel before is what the plan saves
abbrev pub gain_of : Problem → Weight → List (List ℕ) → ℕ → List (List ℕ) → ℤ
gain_of p w plan call next =
    pos (w.alpha * (site p call).score + w.beta * plan_time p plan) -ℤ pos (w.beta * plan_time p next)

-- the call put into this tour at this position, if the plan stays a plan and gains
abbrev pub candidate_at : Problem → Weight → List (List ℕ) → ℕ → ℕ → ℕ → Option Candidate
candidate_at p w plan call tour position =
    let next = with_call plan call tour position in
    let gain = gain_of p w plan call next in
    if is_plan p next && int_lt (pos 0) gain
    then Some (record { gain = gain; call = call; tour = tour; position = position })
    else None

-- those with one call and one tour
abbrev pub at_tour : Problem → Weight → List (List ℕ) → ℕ → ℕ → List Candidate
at_tour p w plan call tour = filter_map (candidate_at p w plan call tour) (range_with_len 0 (length (tour_at plan tour) + 1))

-- those with one call; the tour behind the last one is a new one
abbrev pub at_call : Problem → Weight → List (List ℕ) → ℕ → List Candidate
at_call p w plan call = flat_map (at_tour p w plan call) (range_with_len 0 (length plan + 1))

-- all candidates
abbrev pub candidates : Problem → Weight → List (List ℕ) → List Candidate
candidates p w plan = flat_map (at_call p w plan) (range_with_len 1 (calls p))

-- the greater gain first, then the smaller call, the smaller tour number, the smaller position
abbrev pub candidate_cmp : Candidate → Candidate → Ordering
candidate_cmp = then_cmp (flip_args (on (λ c. c.gain) int_cmp)) (then_cmp (on (λ c. c.call) nat_cmp)
    (then_cmp (on (λ c. c.tour) nat_cmp) (on (λ c. c.position) nat_cmp)))

-- a list in order: each element goes before the first one that it comes before
abbrev pub put_before : {X : Type 0} → (X → X → Bool) → X → List X → List X
put_before lt x [] = x ∷ []
put_before lt x (y ∷ ys) = if lt x y then x ∷ y ∷ ys else y ∷ put_before lt x ys

abbrev pub in_order : {X : Type 0} → (X → X → Bool) → List X → List X
in_order lt [] = []
in_order lt (x ∷ xs) = put_before lt x (in_order lt xs)

-- all candidates, the best first
abbrev pub ranked : Problem → Weight → List (List ℕ) → List Candidate
ranked p w plan = in_order (λ a b. is_lt (candidate_cmp a b)) (candidates p w plan)
