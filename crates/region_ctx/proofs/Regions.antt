-- What the place after a call and the place before it say of a region.
use Rattle.std.proofs.Common.{◌≡◌, ◌∙◌, ℕ, ◌+◌, ◌<◌, ◌≤◌, ⊎_elim, true, false, true≢false, not, ◌&&◌, ◌||◌, nat_eq, nat_le, sym, ap, arith}
use Rattle.std.specs.List.{range_with_len}
use Rattle.std.proofs.lemmas.Bool.{cases_lt, eq-eqb, ne_eqb, le-leb, leb-true, and_from, not_from_false, false_from_ne_true, and_parts, not-true, or_left, or_right}
use Rattle.std.specs.FinSet as set
use Rattle.orienteering.specs.Arc.{arc, ArcSet}
use Rattle.orienteering.specs.Instance.{IsArc, is_arc, is_call}
use Rattle.orienteering.specs.Region.{Region, is_used, is_banned, is_left, is_entered, is_shut, is_open, is_undecided, can_be_entered, can_be_left}
use Rattle.orienteering.proofs.Members.{one_that_passes, range_of_member}
use Rattle.orienteering.proofs.ArcSets.{arc_test, arc_tested}
use Rattle.region_ctx.specs.Links.{AreSingle, has_arc_into, has_arc_out}
use Rattle.region_ctx.proofs.Ranges.{one_in_range, none_in_range}

-- k is the place after i, 0 for none
pub left_is : (n : ℕ) (used : ArcSet) (i k : ℕ) → k ≤ n + 1 → (1 ≤ k → set.contains used (arc i k) ≡ true) →
    (k ≡ 0 → (j : ℕ) → set.contains used (arc i j) ≡ false) → not (nat_eq k 0) ≡ has_arc_out n used i
left_is n used i k high some none =
    ⊎_elim
    (λ (low : k < 1).
    let is_none : k ≡ 0 = omega (arith, low) in
    ap not (eq-eqb k 0 is_none) ∙ sym (none_in_range (λ j. set.contains used (arc i j)) 1 (n + 1) (λ j _ _. none is_none j)))
    (λ (low : 1 ≤ k).
    ap not (ne_eqb k 0 (λ e. omega (arith, e, low)))
    ∙ sym (one_in_range (λ j. set.contains used (arc i j)) 1 (n + 1) k low (omega (arith, high)) (some low)))
    (cases_lt k 1)

-- k is the place before j, above the calls for none
pub entered_is : (n : ℕ) (used : ArcSet) (j k : ℕ) → (k ≤ n → set.contains used (arc k j) ≡ true) →
    (n < k → (i : ℕ) → set.contains used (arc i j) ≡ false) → nat_le k n ≡ has_arc_into n used j
entered_is n used j k some none =
    ⊎_elim
    (λ (above : n < k).
    false_from_ne_true _ (λ h. omega (arith, above, leb-true k n h))
    ∙ sym (none_in_range (λ i. set.contains used (arc i j)) 0 (n + 1) (λ i _ _. none above i)))
    (λ (within : k ≤ n).
    le-leb k n within
    ∙ sym (one_in_range (λ i. set.contains used (arc i j)) 0 (n + 1) k (omega arith) (omega (arith, within)) (some within)))
    (cases_lt n k)

module _ (r : Region) (single : AreSingle r.calls r.used) where
  used_is_open : (i j : ℕ) → is_used r i j ≡ true → is_open r i j ≡ true
  used_is_open i j used =
      and_from (is_arc r.calls i j) (not (is_shut r i j)) (arc_test r.calls i j (single.arcs i j used))
      (not_from_false (is_shut r i j) (false_from_ne_true (is_shut r i j) (λ shut.
      let parts = and_parts (not (is_used r i j)) (is_banned r i j || (is_call r.calls i && is_left r i) || (is_call r.calls j && is_entered r j)) shut in
      true≢false (sym used ∙ not-true (is_used r i j) parts.0))))

  pub entered_can_be_entered : (j : ℕ) → is_entered r j ≡ true → can_be_entered r j ≡ true
  entered_can_be_entered j entered =
      let way = one_that_passes (λ i. is_used r i j) (range_with_len 0 (r.calls + 1)) entered in
      let within = range_of_member 0 (r.calls + 1) way.0 way.1 in
      one_in_range (λ i. is_open r i j) 0 (r.calls + 1) way.0 within.0 within.1 (used_is_open way.0 j way.2)

  pub left_can_be_left : (i : ℕ) → is_left r i ≡ true → can_be_left r i ≡ true
  left_can_be_left i left =
      let way = one_that_passes (is_used r i) (range_with_len 1 (r.calls + 1)) left in
      let within = range_of_member 1 (r.calls + 1) way.0 way.1 in
      one_in_range (is_open r i) 1 (r.calls + 1) way.0 within.0 within.1 (used_is_open i way.0 way.2)

-- what an undecided arc needs
pub record IsUndecided (r : Region) (i j : ℕ) : Type 0 where
  pub is_arc : IsArc r.calls i j
  pub out : 1 ≤ i → is_left r i ≡ false
  pub into : j ≤ r.calls → is_entered r j ≡ false

pub undecided_says : (r : Region) (i j : ℕ) → is_undecided r i j ≡ true → IsUndecided r i j
undecided_says r i j h =
    let parts = and_parts (is_open r i j) (not (is_used r i j)) h in
    let open_parts = and_parts (is_arc r.calls i j) (not (is_shut r i j)) parts.0 in
    let a = arc_tested r.calls i j open_parts.0 in
    let not_shut : (is_banned r i j || (is_call r.calls i && is_left r i) || (is_call r.calls j && is_entered r j)) ≡ true → ⊥ =
    λ g. true≢false (sym (and_from (not (is_used r i j)) _ parts.1 g) ∙ not-true (is_shut r i j) open_parts.1) in
    let from : i ≤ r.calls = a.from in
    let low : 1 ≤ j = a.low in
    record {
      is_arc = a;
      out = λ call. false_from_ne_true (is_left r i) (λ left.
          not_shut (or_left _ _ (or_right (is_banned r i j) _ (and_from (is_call r.calls i) (is_left r i)
          (and_from (nat_le 1 i) (nat_le i r.calls) (le-leb 1 i call) (le-leb i r.calls from)) left))));
      into = λ call. false_from_ne_true (is_entered r j) (λ entered.
          not_shut (or_right _ _ (and_from (is_call r.calls j) (is_entered r j)
          (and_from (nat_le 1 j) (nat_le j r.calls) (le-leb 1 j low) (le-leb j r.calls call)) entered)));
    }
