-- The calls of a plan: each is one, and there are no more than the instance has.
use Rattle.std.proofs.Common.{ℕ, zero, suc, ◌<◌, ◌≤◌, get_or, List, [], ◌∷◌, length, nat_eq, inl, inr, arith}
use Rattle.std.specs.List.{AllByRecursion, IsDistinct, concat}
use Rattle.orienteering.specs.Instance.{Problem, calls, IsCallAmong}
use Rattle.orienteering.specs.Tour.{IsFeasibleTour}
use Rattle.orienteering.proofs.Lists.{AllByRecursion-append}
use Rattle.orienteering.proofs.Members.{IsMember, no_repeat_from_IsDistinct}
use Rattle.orienteering.proofs.UsedPaths.{few_calls}

each_call : (n c : ℕ) (cs : List ℕ) → AllByRecursion (IsCallAmong n) cs → IsMember c cs → (1 ≤ c) × (c ≤ n)
each_call n c [] all m = absurd m
each_call n c (d ∷ ds) all m =
    elim m [ inl e ↦ let b = all.0 in (omega arith, omega arith) | inr r ↦ each_call n c ds all.1 r ]

pub length-distinct : (n : ℕ) (xs : List ℕ) → AllByRecursion (IsCallAmong n) xs → IsDistinct nat_eq xs → length xs ≤ n
length-distinct n xs all d = few_calls n xs (no_repeat_from_IsDistinct xs d) (λ c. each_call n c xs all)

pub all_calls : (p : Problem) (plan : List (List ℕ)) → AllByRecursion (IsFeasibleTour p) plan →
    AllByRecursion (IsCallAmong (calls p)) (concat plan)
all_calls p [] a = tt
all_calls p (t ∷ ts) a = AllByRecursion-append (IsCallAmong (calls p)) t (concat ts) a.0.calls (all_calls p ts a.1)

pub tour_length-le : (p : Problem) (tour : List ℕ) → IsFeasibleTour p tour → length tour ≤ calls p
tour_length-le p tour h = length-distinct (calls p) tour h.calls h.distinct

pub AllByRecursion-at : {X : Type 0} (P : X → Type 0) (xs : List X) (k : ℕ) (d : X) → k < length xs → AllByRecursion P xs →
    P (get_or xs k d)
AllByRecursion-at P [] k d h a = absurd (omega arith)
AllByRecursion-at P (x ∷ xs) zero d h a = a.0
AllByRecursion-at P (x ∷ xs) (suc k) d h a = AllByRecursion-at P xs k d (omega arith) a.1
