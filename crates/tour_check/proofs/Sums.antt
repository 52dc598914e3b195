-- What the calls and the tours of a plan are bounded by, tour by tour.
use Rattle.std.proofs.Common.{◌≡◌, ℕ, zero, suc, ◌+◌, ◌≤◌, ◌<◌, List, [], ◌∷◌, ◌++◌, length, length-append, get_or, take, drop, inl, inr, nat_eq, ap, sym, refl, ◌∙◌, arith}
use Rattle.std.specs.List.{AllByRecursion, concat}
use Rattle.std.proofs.lemmas.List.Sums.{sum_by_more}
use Rattle.orienteering.specs.Instance.{Problem, calls, IsCall}
use Rattle.orienteering.specs.Tour.{IsFeasibleTour, IsPlan, tour_profit, tour_time, plan_profit, plan_time}
use Rattle.orienteering.proofs.Members.{IsMember, HasNoRepeat, no_repeat_from_IsDistinct}
use Rattle.orienteering.proofs.UsedPaths.{few_calls}
use Rattle.orienteering.proofs.TourArcs.{tours_of_plan}
use Rattle.orienteering.proofs.Tours.{concat_take_more}
use Rattle.bit_sets.specs.NumberSet.{IsSmall}

pub AllByRecursion-at : {X : Type 0} (P : X → Type 0) (xs : List X) (k : ℕ) (d : X) → k < length xs → AllByRecursion P xs →
    P (get_or xs k d)
AllByRecursion-at P [] k d h a = absurd (omega arith)
AllByRecursion-at P (x ∷ xs) zero d h a = a.0
AllByRecursion-at P (x ∷ xs) (suc k) d h a = AllByRecursion-at P xs k d (omega arith) a.1

each_call : (p : Problem) (c : ℕ) (cs : List ℕ) → AllByRecursion (IsCall p) cs → IsMember c cs → (1 ≤ c) × (c ≤ calls p)
each_call p c [] all m = absurd m
each_call p c (d ∷ ds) all m =
    elim m [ inl e ↦ let b = all.0 in (omega arith, omega arith) | inr n ↦ each_call p c ds all.1 n ]

-- a feasible tour has no more calls than there are
pub tour_length-le : (p : Problem) (tour : List ℕ) → IsFeasibleTour p tour → length tour ≤ calls p
tour_length-le p tour h = few_calls (calls p) tour (no_repeat_from_IsDistinct tour h.distinct) (λ c. each_call p c tour h.calls)

pub small_calls : (p : Problem) (tour : List ℕ) → calls p ≤ 300 → AllByRecursion (IsCall p) tour → IsSmall tour
small_calls p [] few all = tt
small_calls p (c ∷ cs) few all = (omega (arith, all.0.1), small_calls p cs few all.1)

-- a plan's calls up to one of its tours are no more than there are
pub first_calls-le : (p : Problem) (plan : List (List ℕ)) → IsPlan p plan → (i : ℕ) → length (concat (take i plan)) ≤ calls p
first_calls-le p plan h i =
    let tours = tours_of_plan p plan h in
    omega (arith, concat_take-le plan i, few_calls (calls p) (concat plan) tours.distinct tours.are_calls)
  where
    concat_take-le : (ts : List (List ℕ)) (k : ℕ) → length (concat (take k ts)) ≤ length (concat ts)
    concat_take-le [] zero = omega arith
    concat_take-le [] (suc k) = omega arith
    concat_take-le (t ∷ ts) zero = omega arith
    concat_take-le (t ∷ ts) (suc k) =
        omega (arith, concat_take-le ts k, length-append t (concat (take k ts)), length-append t (concat ts))

-- what one tour more adds
pub record OneTourMore (p : Problem) (plan : List (List ℕ)) (i : ℕ) (t : List ℕ) : Type 0 where
  pub feasible : IsFeasibleTour p t
  pub calls_so_far : length (concat (take i plan)) + length t ≡ length (concat (take (i + 1) plan))
  pub calls_bound : length (concat (take (i + 1) plan)) ≤ calls p
  pub profit : plan_profit p (take (i + 1) plan) ≡ plan_profit p (take i plan) + tour_profit p t
  pub time : plan_time p (take (i + 1) plan) ≡ plan_time p (take i plan) + tour_time p t

pub one_tour_more : (p : Problem) (plan : List (List ℕ)) → IsPlan p plan → (i : ℕ) (t : List ℕ) → i < length plan →
    t ≡ get_or plan i t → OneTourMore p plan i t
one_tour_more p plan h i t below here =
    record {
      feasible = rw here (AllByRecursion-at (IsFeasibleTour p) plan i t below h.feasible);
      calls_so_far =
          omega (arith, length-append (concat (take i plan)) t, ap length (sym (concat_take_more plan i t below)), ap length (ap (λ x. concat (take i plan) ++ x) here));
      calls_bound = first_calls-le p plan h (i + 1);
      profit = sum_by_more (tour_profit p) plan i t below ∙ ap (λ x. plan_profit p (take i plan) + tour_profit p x) (sym here);
      time = sum_by_more (tour_time p) plan i t below ∙ ap (λ x. plan_time p (take i plan) + tour_time p x) (sym here);
    }
