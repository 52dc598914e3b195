-- The tours of a plan that travels the used arcs, gathered by their first calls.
use Rattle.std.proofs.Common.{◌≡◌, ℕ, ◌+◌, ◌<◌, ◌≤◌, ◌⊎◌, inl, inr, true, false, true≢false, List, [], ◌∷◌, ◌++◌, length, refl, sym, ap, subst, ◌∙◌, arith}
use Rattle.std.specs.List.{AllByRecursion, concat}
use Rattle.std.proofs.lemmas.Bool.{cases_lt}
use Rattle.orienteering.specs.Instance.{Problem, calls, IsCallAmong}
use Rattle.orienteering.specs.Tour.{IsFeasibleTour, tour_profit, tour_time, plan_profit, plan_time}
use Rattle.orienteering.specs.Arc.{Arc, arc, arcs_along, tour_arcs, plan_arcs}
use Rattle.orienteering.specs.Region.{Region, is_used, IsUsedPath, IsRealised}
use Rattle.orienteering.proofs.Members.{IsMember, HasNoRepeat, member_left, member_right, member_cases, member_of_part, part_of_member, member_from_Contains, Contains_from_member, no_repeat_append, no_repeat_right, not_on_both_sides, no_repeat_from_IsDistinct, total, total_within, total_one, sum_by_is_total}
use Rattle.orienteering.proofs.TourArcs.{IsTourList, tours_of_plan, tours_after, left_place}
use Rattle.orienteering.proofs.UsedPaths.{IsDistinct-from_no_repeat, few_calls}
use Rattle.sweep_solver.specs.UsedTours.{IsUsedTour}

-- ---- lists

from_members : {X : Type 0} (P : X → Type 0) (xs : List X) → ((x : X) → IsMember x xs → P x) → AllByRecursion P xs
from_members P [] each = tt
from_members P (x ∷ xs) each = (each x (inl refl), from_members P xs (λ y m. each y (inr m)))

at_member : {X : Type 0} (P : X → Type 0) (xs : List X) (x : X) → AllByRecursion P xs → IsMember x xs → P x
at_member P [] x a m = absurd m
at_member P (y ∷ ys) x a m = elim m [ inl e ↦ subst P (sym e) a.0 | inr n ↦ at_member P ys x a.1 n ]

member_of_concat : (x : ℕ) (t : List ℕ) (ts : List (List ℕ)) → IsMember t ts → IsMember x t → IsMember x (concat ts)
member_of_concat x t [] m n = absurd m
member_of_concat x t (u ∷ ts) m n =
    elim m [
      | inl e ↦ member_left x u (concat ts) (subst (λ v. IsMember x v) e n)
      | inr m' ↦ member_right x u (concat ts) (member_of_concat x t ts m' n)
    ]

tour_of_concat : (x : ℕ) (ts : List (List ℕ)) → IsMember x (concat ts) → (t : List ℕ) × IsMember t ts × IsMember x t
tour_of_concat x [] m = absurd m
tour_of_concat x (u ∷ ts) m =
    elim (member_cases x u (concat ts) m) [
      | inl here ↦ (u, inl refl, here)
      | inr later ↦ let f = tour_of_concat x ts later in (f.0, inr f.1, f.2)
    ]

-- two tours that share a call are one
one_tour : (ts : List (List ℕ)) → HasNoRepeat (concat ts) → (t u : List ℕ) (x : ℕ) → IsMember t ts → IsMember u ts →
    IsMember x t → IsMember x u → t ≡ u
one_tour [] d t u x m n a b = absurd m
one_tour (v ∷ vs) d t u x m n a b =
    elim m [
      | inl e ↦ elim n [
        | inl f ↦ e ∙ sym f
        | inr n' ↦ absurd (not_on_both_sides x v (concat vs) d (subst (λ w. IsMember x w) e a) (member_of_concat x u vs n' b))
      ]
      | inr m' ↦ elim n [
        | inl f ↦ absurd (not_on_both_sides x v (concat vs) d (subst (λ w. IsMember x w) f b) (member_of_concat x t vs m' a))
        | inr n' ↦ one_tour vs (no_repeat_right v (concat vs) d) t u x m' n' a b
      ]
    ]

-- a tour has a first call
first_of : (t : List ℕ) → (t ≡ [] → ⊥) → (h : ℕ) × (rest : List ℕ) × (t ≡ h ∷ rest)
first_of [] some = absurd (some refl)
first_of (h ∷ rest) some = (h, rest, refl)

tours_once : (n : ℕ) (ts : List (List ℕ)) → IsTourList n ts → HasNoRepeat ts
tours_once n [] t = tt
tours_once n (u ∷ ts) t = (
  λ m.
      let f = first_of u t.some_call.0 in
      let here : IsMember f.0 u = subst (λ w. IsMember f.0 w) (sym f.2) (inl refl) in
      not_on_both_sides f.0 u (concat ts) t.distinct here (member_of_concat f.0 u ts m here),
  tours_once n ts (tours_after n u ts t),
)

-- ---- the plan that is realised

module _ (p : Problem) (r : Region) (same_calls : r.calls ≡ calls p) (q : List (List ℕ)) (is : IsRealised p r q) where
  tours : IsTourList r.calls q
  tours = subst (λ n. IsTourList n q) (sym same_calls) (tours_of_plan p q is.is_plan)

  -- the tours whose first call is less than k
  pub record IsGathered (k : ℕ) (ts : List (List ℕ)) : Type 0 where
    pub among : (t : List ℕ) → IsMember t ts → IsMember t q
    pub below : (t : List ℕ) (h : ℕ) (rest : List ℕ) → IsMember t ts → t ≡ h ∷ rest → h < k
    pub once : HasNoRepeat ts
    pub all : (t : List ℕ) (h : ℕ) (rest : List ℕ) → IsMember t q → t ≡ h ∷ rest → h < k → IsMember t ts

  call_of : (t : List ℕ) (x : ℕ) → IsMember t q → IsMember x t → (1 ≤ x) × (x ≤ r.calls)
  call_of t x m n = tours.are_calls x (member_of_concat x t q m n)

  arc_of : (t : List ℕ) (a : Arc) → IsMember t q → IsMember a (tour_arcs r.calls t) → is_used r a.from a.to ≡ true
  arc_of t a m n =
      is.only_used a.from a.to
      (Contains_from_member a (plan_arcs r.calls q) (member_of_part (λ u. tour_arcs r.calls u) t a q m n))

  first_arc : (t : List ℕ) (h : ℕ) (rest : List ℕ) → IsMember t q → t ≡ h ∷ rest → is_used r 0 h ≡ true
  first_arc t h rest m e =
      arc_of t (arc 0 h) m (subst (λ u. IsMember (arc 0 h) (tour_arcs r.calls u)) (sym e) (inl refl))

  -- a used arc from the start leads to the first call of a tour
  tour_with : (h : ℕ) → is_used r 0 h ≡ true → (t : List ℕ) × IsMember t q × ((rest : List ℕ) × (t ≡ h ∷ rest))
  tour_with h u =
      let f = part_of_member (λ t. tour_arcs r.calls t) (arc 0 h) q (member_from_Contains (arc 0 h) (plan_arcs r.calls q) (is.used 0 h u)) in
      let g = first_of f.0 (at_member (λ t. t ≡ [] → ⊥) q f.0 tours.some_call f.1) in
      let here : IsMember (arc 0 h) (arcs_along 0 (g.0 ∷ (g.1 ++ (r.calls + 1) ∷ []))) =
      subst (λ t. IsMember (arc 0 h) (tour_arcs r.calls t)) g.2 f.2 in
      elim here [
        | inl e ↦
            let same : h ≡ g.0 = ap (λ (a : Arc). a.to) e in
            (f.0, f.1, (g.1, g.2 ∙ ap (λ x. x ∷ g.1) (sym same)))
        | inr later ↦
            let left = left_place (r.calls + 1) 0 h g.0 g.1 later in
            let b = call_of f.0 0 f.1 (subst (λ t. IsMember 0 t) (sym g.2) left) in
            absurd (omega arith)
      ]

  used_path : (t : List ℕ) → IsMember t q → IsUsedPath r 0 (t ++ (r.calls + 1) ∷ [])
  used_path t m = from_members (λ (a : Arc). is_used r a.from a.to ≡ true) (tour_arcs r.calls t) (λ a n. arc_of t a m n)

  once_in : (t : List ℕ) → IsMember t q → HasNoRepeat t
  once_in t m = no_repeat_from_IsDistinct t (at_member (IsFeasibleTour p) q t is.is_plan.feasible m).distinct

  pub used_tour : (t : List ℕ) (h : ℕ) (rest : List ℕ) → IsMember t q → t ≡ h ∷ rest → IsUsedTour r h t
  used_tour t h rest m e =
      record {
        rest = rest;
        begins = e;
        path = used_path t m;
        calls = from_members (IsCallAmong r.calls) t (λ x n. call_of t x m n);
        short = few_calls r.calls t (once_in t m) (λ x n. call_of t x m n);
      }

  pub none_gathered : (ts : List (List ℕ)) → ts ≡ [] → IsGathered 1 ts
  none_gathered ts none =
      record {
        among = λ t m. absurd (subst (λ us. IsMember t us) none m);
        below = λ t h rest m e. absurd (subst (λ us. IsMember t us) none m);
        once = subst (λ us. HasNoRepeat us) (sym none) tt;
        all = λ t h rest m e low.
            let b = call_of t h m (subst (λ u. IsMember h u) (sym e) (inl refl)) in
            absurd (omega arith);
      }

  -- the first call of a tour is one
  one_first : (t : List ℕ) (h g : ℕ) (rest more : List ℕ) → t ≡ h ∷ rest → t ≡ g ∷ more → h ≡ g
  one_first t h g rest more e f = cc

  pub tour_gathered : (k : ℕ) (ts grown : List (List ℕ)) (found : List ℕ) → is_used r 0 k ≡ true →
      ((used : List ℕ) → IsUsedTour r k used → found ≡ used) → grown ≡ ts ++ found ∷ [] → IsGathered k ts → IsGathered (k + 1) grown
  tour_gathered k ts grown found u is_found written g =
      let f = tour_with k u in
      let here : found ≡ f.0 = is_found f.0 (used_tour f.0 k f.2.0 f.1 f.2.1) in
      let member : IsMember found q = subst (λ t. IsMember t q) (sym here) f.1 in
      let begins : found ≡ k ∷ f.2.0 = here ∙ f.2.1 in
      let cases : (t : List ℕ) → IsMember t grown → IsMember t ts ⊎ (t ≡ found) =
      λ t m. elim (member_cases t ts (found ∷ []) (subst (λ us. IsMember t us) written m)) [
        | inl old ↦ inl old
        | inr new ↦ elim new [ inl e ↦ inr e | inr never ↦ absurd never ]
      ] in
      record {
        among = λ t m. elim (cases t m) [
          | inl old ↦ g.among t old
          | inr e ↦ subst (λ v. IsMember v q) (sym e) member
        ];
        below = λ t h rest m e. elim (cases t m) [
          | inl old ↦ let b = g.below t h rest old e in omega arith
          | inr new ↦ let same : h ≡ k = one_first t h k rest f.2.0 e (new ∙ begins) in omega arith
        ];
        once = subst (λ us. HasNoRepeat us) (sym written)
            (no_repeat_append ts (found ∷ []) g.once ((λ m. m), tt) (λ t m n. elim n [
              | inl e ↦ let b = g.below t k f.2.0 m (e ∙ begins) in omega arith
              | inr never ↦ never
            ]));
        all = λ t h rest m e low. subst (λ us. IsMember t us) (sym written) (elim (cases_lt h k) [
          | inl less ↦ member_left t ts (found ∷ []) (g.all t h rest m e less)
          | inr more ↦
              let same : h ≡ k = omega arith in
              member_right t ts (found ∷ []) (inl (one_tour q tours.distinct t found h m member
              (subst (λ v. IsMember h v) (sym e) (inl refl)) (subst (λ v. IsMember h v) (sym begins) (inl same))))
        ]);
      }

  pub none_more : (k : ℕ) (ts : List (List ℕ)) → is_used r 0 k ≡ false → IsGathered k ts → IsGathered (k + 1) ts
  none_more k ts unused g =
      record {
        among = g.among;
        below = λ t h rest m e. let b = g.below t h rest m e in omega arith;
        once = g.once;
        all = λ t h rest m e low. elim (cases_lt h k) [
          | inl less ↦ g.all t h rest m e less
          | inr more ↦
              let same : h ≡ k = omega arith in
              absurd (true≢false (sym (subst (λ j. is_used r 0 j ≡ true) same (first_arc t h rest m e)) ∙ unused))
        ];
      }

  module _ (ts : List (List ℕ)) (g : IsGathered (r.calls + 1) ts) where
    all_of : (t : List ℕ) → IsMember t q → IsMember t ts
    all_of t m =
        let f = first_of t (at_member (λ u. u ≡ [] → ⊥) q t tours.some_call m) in
        let b = call_of t f.0 m (subst (λ u. IsMember f.0 u) (sym f.2) (inl refl)) in
        g.all t f.0 f.1 m f.2 (omega arith)

    calls_once : (us : List (List ℕ)) → HasNoRepeat us → ((t : List ℕ) → IsMember t us → IsMember t q) → HasNoRepeat (concat us)
    calls_once [] d among = tt
    calls_once (u ∷ us) d among =
        no_repeat_append u (concat us) (once_in u (among u (inl refl))) (calls_once us d.1 (λ t m. among t (inr m)))
        (λ x m n.
        let f = tour_of_concat x us n in
        d.0 (subst (λ t. IsMember t us) (sym (one_tour q tours.distinct u f.0 x (among u (inl refl)) (among f.0 (inr f.1)) m f.2)) f.1))

    same_arcs : (a : Arc) (us vs : List (List ℕ)) → ((t : List ℕ) → IsMember t us → IsMember t vs) →
        IsMember a (plan_arcs r.calls us) → IsMember a (plan_arcs r.calls vs)
    same_arcs a us vs within m =
        let f = part_of_member (λ t. tour_arcs r.calls t) a us m in
        member_of_part (λ t. tour_arcs r.calls t) f.0 a vs (within f.0 f.1) f.2

    pub gathered_is_realised : IsRealised p r ts
    gathered_is_realised =
        let once_q = tours_once r.calls q tours in
        let few : total (λ _. 1) ts ≤ total (λ _. 1) q = total_within (λ _. 1) ts q g.once g.among in
        let ts_length : total (λ _. 1) ts ≡ length ts = total_one ts in
        let q_length : total (λ _. 1) q ≡ length q = total_one q in
        let members : length q ≤ p.team = is.is_plan.members in
        let earned : total (tour_profit p) q ≤ total (tour_profit p) ts = total_within (tour_profit p) q ts once_q all_of in
        let paid : total (tour_time p) ts ≤ total (tour_time p) q = total_within (tour_time p) ts q g.once g.among in
        let profit_q : plan_profit p q ≡ total (tour_profit p) q = sum_by_is_total (tour_profit p) q in
        let profit_ts : plan_profit p ts ≡ total (tour_profit p) ts = sum_by_is_total (tour_profit p) ts in
        let time_q : plan_time p q ≡ total (tour_time p) q = sum_by_is_total (tour_time p) q in
        let time_ts : plan_time p ts ≡ total (tour_time p) ts = sum_by_is_total (tour_time p) ts in
        record {
          is_plan = record {
            members = omega arith;
            feasible = from_members (IsFeasibleTour p) ts (λ t m. at_member (IsFeasibleTour p) q t is.is_plan.feasible (g.among t m));
            disjoint = IsDistinct-from_no_repeat (concat ts) (calls_once ts g.once g.among);
          };
          used = λ i j u. Contains_from_member (arc i j) (plan_arcs r.calls ts)
              (same_arcs (arc i j) q ts all_of (member_from_Contains (arc i j) (plan_arcs r.calls q) (is.used i j u)));
          only_used = λ i j c. is.only_used i j (Contains_from_member (arc i j) (plan_arcs r.calls q)
              (same_arcs (arc i j) ts q g.among (member_from_Contains (arc i j) (plan_arcs r.calls ts) c)));
          best = λ v l.
              let w = is.best v l in
              let more : v.profit ≤ plan_profit p q = w.profit in
              let less : plan_time p q ≤ v.time = w.time in
              record { profit = omega arith; time = omega arith };
        }
