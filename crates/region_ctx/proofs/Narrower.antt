-- The tight box of a part lies within that of the whole, and each plan of a region visits each forced call.
use Rattle.std.proofs.Common.{◌≡◌, ◌∙◌, ℕ, ◌<◌, ◌≤◌, ◌⊎◌, min, inl, inr, Bool, true, false, not, ◌&&◌, ◌||◌, cond, List, [], ◌∷◌, true≢false, refl, sym, subst, arith, sum_by, Contains, nat_eq}
use Rattle.std.specs.List.{concat, list_any}
use Rattle.std.proofs.lemmas.Bool.{ne_eqb, cond-false, and_parts, and_from, not-true, not_from_false, or_cases, or_left, or_right, false_from_ne_true, cases_Bool}
use Rattle.std.proofs.lemmas.List.Sums.{sum_by-cons}
use Rattle.std.specs.FinSet as set
use Rattle.orienteering.specs.Instance.{Problem, site, calls, travel, origins, targets, all_calls, is_arc, is_call, IsCall}
use Rattle.orienteering.specs.Arc.{arc, ArcSet, plan_arcs}
use Rattle.orienteering.specs.declared.Split.{Split}
use Rattle.orienteering.specs.declared.Split.TheVariants.{Profit, Time, Count, Arc}
use Rattle.orienteering.specs.Region.{Region, Agrees, is_used, is_banned, is_left, is_entered, is_shut, is_open, is_forced, used_travel, can_be_entered, open_score, tight_box, MakesProgress, first_child, second_child}
use Rattle.orienteering.proofs.Members.{some_passes, one_that_passes, member_from_Contains, Contains_from_member}
use Rattle.orienteering.proofs.ArcSets.{kept, new_or_kept}
use Rattle.orienteering.proofs.TourArcs.{plan_left_place, plan_entered_place}
use Rattle.region_ctx.specs.Laws.{IsWithin}

-- ---- forced calls

pub forced_is_visited : (p : Problem) (r : Region) (plan : List (List ℕ)) (c : ℕ) → r.calls ≡ calls p → Agrees p r plan →
    IsCall p c → is_forced r c ≡ true → Contains (concat plan) c
forced_is_visited p r plan c same agrees is_call forced =
    let low : 1 ≤ c = is_call.0 in
    let high : c ≤ calls p = is_call.1 in
    elim (or_cases (is_entered r c) (is_left r c) forced) [
      | inl entered ↦
          let way = one_that_passes (λ i. is_used r i c) (origins r.calls) entered in
          elim (plan_entered_place r.calls plan way.0 c (member_from_Contains (arc way.0 c) (plan_arcs r.calls plan) (agrees.used way.0 c way.2))) [
            | inl end ↦ absurd (omega arith)
            | inr visited ↦ Contains_from_member c (concat plan) visited
          ]
      | inr left ↦
          let way = one_that_passes (λ j. is_used r c j) (targets r.calls) left in
          elim (plan_left_place r.calls plan c way.0 (member_from_Contains (arc c way.0) (plan_arcs r.calls plan) (agrees.used c way.0 way.2))) [
            | inl start ↦ absurd (omega arith)
            | inr visited ↦ Contains_from_member c (concat plan) visited
          ]
    ]

-- ---- tests and sums that only grow

any_more : {A : Type 0} (s t : A → Bool) (xs : List A) → ((x : A) → s x ≡ true → t x ≡ true) → list_any s xs ≡ true → list_any t xs ≡ true
any_more s t xs more h = let one = one_that_passes s xs h in some_passes t one.0 xs one.1 (more one.0 one.2)

sum_by-le : {A : Type 0} (f g : A → ℕ) (xs : List A) → ((x : A) → f x ≤ g x) → sum_by f xs ≤ sum_by g xs
sum_by-le f g [] le = omega arith
sum_by-le f g (x ∷ xs) le =
    let first = le x in
    let rest = sum_by-le f g xs le in
    let one = sum_by-cons f x xs in
    let other = sum_by-cons g x xs in
    omega (arith, first, rest, one, other)

cell-le : (s t : Bool) (k : ℕ) → (s ≡ true → t ≡ true) → cond s k 0 ≤ cond t k 0
cell-le true true k more = omega arith
cell-le true false k more = absurd (true≢false (sym (more refl)))
cell-le false true k more = omega arith
cell-le false false k more = omega arith

-- ---- more used and more banned arcs, of which the used ones were open

module _ (p : Problem) (r : Region) (used banned : ArcSet)
    (used_stay : (i j : ℕ) → set.contains r.used (arc i j) ≡ true → set.contains used (arc i j) ≡ true)
    (banned_stay : (i j : ℕ) → set.contains r.banned (arc i j) ≡ true → set.contains banned (arc i j) ≡ true)
    (were_open : (i j : ℕ) → set.contains used (arc i j) ≡ true → (set.contains r.used (arc i j) ≡ true) ⊎ (is_open r i j ≡ true)) where
  abbrev part : Region
  part = record r { used = used; banned = banned }

  shut_stays : (i j : ℕ) → (is_used part i j ≡ true → ⊥) → is_shut r i j ≡ true → is_shut part i j ≡ true
  shut_stays i j unused shut =
      let parts = and_parts (not (is_used r i j)) (is_banned r i j || (is_call r.calls i && is_left r i) || (is_call r.calls j && is_entered r j)) shut in
      and_from (not (is_used part i j)) (is_banned part i j || (is_call r.calls i && is_left part i) || (is_call r.calls j && is_entered part j))
      (not_from_false (is_used part i j) (false_from_ne_true (is_used part i j) unused))
      (elim (or_cases (is_banned r i j || (is_call r.calls i && is_left r i)) (is_call r.calls j && is_entered r j) parts.1) [
        | inl h ↦ or_left (is_banned part i j || (is_call r.calls i && is_left part i)) (is_call r.calls j && is_entered part j)
            (elim (or_cases (is_banned r i j) (is_call r.calls i && is_left r i) h) [
              | inl b ↦ or_left (is_banned part i j) (is_call r.calls i && is_left part i) (banned_stay i j b)
              | inr l ↦
                  let both = and_parts (is_call r.calls i) (is_left r i) l in
                  or_right (is_banned part i j) (is_call r.calls i && is_left part i)
                  (and_from (is_call r.calls i) (is_left part i) both.0 (any_more (is_used r i) (is_used part i) (targets r.calls) (λ k. used_stay i k) both.1))
            ])
        | inr e ↦
            let both = and_parts (is_call r.calls j) (is_entered r j) e in
            or_right (is_banned part i j || (is_call r.calls i && is_left part i)) (is_call r.calls j && is_entered part j)
            (and_from (is_call r.calls j) (is_entered part j) both.0
            (any_more (λ k. is_used r k j) (λ k. is_used part k j) (origins r.calls) (λ k. used_stay k j) both.1))
      ])

  open_was_open : (i j : ℕ) → is_open part i j ≡ true → is_open r i j ≡ true
  open_was_open i j h =
      let parts = and_parts (is_arc r.calls i j) (not (is_shut part i j)) h in
      elim (cases_Bool (is_used part i j)) [
        | inl u ↦ elim (were_open i j u) [
          | inl old ↦ and_from (is_arc r.calls i j) (not (is_shut r i j)) parts.0
              (not_from_false (is_shut r i j) (false_from_ne_true (is_shut r i j) (λ shut.
              let unused = and_parts (not (is_used r i j)) (is_banned r i j || (is_call r.calls i && is_left r i) || (is_call r.calls j && is_entered r j)) shut in
              true≢false (sym old ∙ not-true (is_used r i j) unused.0))))
          | inr open_before ↦ open_before
        ]
        | inr off ↦ and_from (is_arc r.calls i j) (not (is_shut r i j)) parts.0
            (not_from_false (is_shut r i j) (false_from_ne_true (is_shut r i j) (λ shut.
            true≢false (sym (shut_stays i j (λ on. true≢false (sym on ∙ off)) shut) ∙ not-true (is_shut part i j) parts.1))))
      ]

  less_score : open_score p part ≤ open_score p r
  less_score =
      sum_by-le (λ j. cond (can_be_entered part j) (site p j).score 0) (λ j. cond (can_be_entered r j) (site p j).score 0) (all_calls r.calls)
      (λ j. cell-le (can_be_entered part j) (can_be_entered r j) (site p j).score
      (any_more (λ i. is_open part i j) (λ i. is_open r i j) (origins r.calls) (λ i. open_was_open i j)))

  more_travel : used_travel p r ≤ used_travel p part
  more_travel =
      sum_by-le (λ i. sum_by (λ j. cond (is_used r i j) (travel p i j) 0) (targets r.calls)) (λ i. sum_by (λ j. cond (is_used part i j) (travel p i j) 0) (targets r.calls)) (origins r.calls)
      (λ i. sum_by-le (λ j. cond (is_used r i j) (travel p i j) 0) (λ j. cond (is_used part i j) (travel p i j) 0) (targets r.calls)
      (λ j. cell-le (is_used r i j) (is_used part i j) (travel p i j) (used_stay i j)))

  pub part_is_within : IsWithin (tight_box p part) (tight_box p r)
  part_is_within =
      let less = less_score in
      let more = more_travel in
      record {
        p_low = omega arith;
        p_high = capped (nat_eq r.most 0) r.raw.p_hi (open_score p part) (open_score p r) less;
        t_low = omega (arith, more);
        t_high = omega arith;
      }
    where
      capped : (none : Bool) (top a b : ℕ) → a ≤ b → cond none 0 (min top a) ≤ cond none 0 (min top b)
      capped true top a b le = omega arith
      capped false top a b le = omega (arith, le)

-- ---- the children

lower_top : (none : Bool) (v top score : ℕ) → v < top → cond none 0 (min v score) ≤ cond none 0 (min top score)
lower_top true v top score low = omega arith
lower_top false v top score low = omega (arith, low)

no_tour : (none : Bool) (a : ℕ) → cond none 0 a ≤ a
no_tour true a = omega arith
no_tour false a = omega arith

pub children_are_within : (p : Problem) (r : Region) (s : Split) → MakesProgress r s →
    IsWithin (tight_box p (first_child r s)) (tight_box p r) × IsWithin (tight_box p (second_child r s)) (tight_box p r)
children_are_within p r (Profit v) m =
    let low : r.raw.p_lo ≤ v = m.0 in (
      record {
        p_low = omega arith;
        p_high = lower_top (nat_eq r.most 0) v r.raw.p_hi (open_score p r) m.1;
        t_low = omega arith;
        t_high = omega arith;
      },
      record { p_low = omega (arith, low); p_high = omega arith; t_low = omega arith; t_high = omega arith },
    )
children_are_within p r (Time v) m =
    let low : r.raw.t_lo ≤ v = m.0 in
    let high : v < r.raw.t_hi = m.1 in (
      record { p_low = omega arith; p_high = omega arith; t_low = omega arith; t_high = omega (arith, high) },
      record { p_low = omega arith; p_high = omega arith; t_low = omega (arith, low); t_high = omega arith },
    )
children_are_within p r (Count c) m =
    let high : c < r.most = m.1 in
    let some : cond (nat_eq r.most 0) 0 (min r.raw.p_hi (open_score p r)) ≡ min r.raw.p_hi (open_score p r) =
    cond-false (nat_eq r.most 0) 0 (min r.raw.p_hi (open_score p r)) (ne_eqb r.most 0 (λ e. omega (arith, e, high))) in (
      record {
        p_low = omega arith;
        p_high = let capped = no_tour (nat_eq c 0) (min r.raw.p_hi (open_score p r)) in omega (arith, capped, some);
        t_low = omega arith;
        t_high = omega arith;
      },
      record { p_low = omega arith; p_high = omega arith; t_low = omega arith; t_high = omega arith },
    )
children_are_within p r (Arc i j) m = (
  part_is_within p r (set.insert r.used (arc i j)) r.banned (λ k l. kept r.used (arc i j) (arc k l)) (λ k l h. h)
      (λ k l h. elim (new_or_kept r.used (arc i j) (arc k l) h) [
        | inl e ↦
            let was_open = and_parts (is_open r i j) (not (is_used r i j)) m in
            inr (subst (λ a. is_open r a.from a.to ≡ true) (sym e) was_open.0)
        | inr old ↦ inl old
      ]),
  part_is_within p r r.used (set.insert r.banned (arc i j)) (λ k l h. h) (λ k l. kept r.banned (arc i j) (arc k l)) (λ k l h. inl h),
)
