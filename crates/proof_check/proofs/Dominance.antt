-- In a list of points that rise, the first with enough profit has the least time of all that have it.
use Rattle.std.proofs.Common.{◌≡◌, ℕ, ◌<◌, ◌≤◌, Bool, true, false, List, length, get_or, refl, sym, ap, ◌∙◌, inl, inr, arith}
use Rattle.std.specs.Prelude.{◌&&◌, nat_le}
use Rattle.std.specs.List.{list_any}
use Rattle.std.specs.List.Sorted.{IsNonDecreasingBy, IsPartitionPoint}
use Rattle.std.proofs.lemmas.Bool.{cases_eq, cases_lt, le-leb, lt-leb}
use Rattle.std.proofs.lemmas.List.Folds.{list_any_none, list_any_at}
use Rattle.std.proofs.lemmas.List.Sorted.{IsNonDecreasingBy-from_all_adjacent}
use Rattle.orienteering.specs.Frontier.{AllRise}
use Rattle.orienteering.specs.Decision.{dominates_box}
use Rattle.orienteering.specs.declared.Box2.{Box2}
use Rattle.orienteering.specs.declared.Listed.{Listed}
use Rattle.orienteering.proofs.Lists.{get_or-default}
use Rattle.orienteering.proofs.Points.{rises_later}

-- profits that rise don't fall
pub profits_rise : (points : List Listed) → AllRise points → IsNonDecreasingBy (λ l. l.point.profit) points
profits_rise points rise =
    IsNonDecreasingBy-from_all_adjacent (λ l. l.point.profit) points (λ k d h. let r = rise k d h in omega (arith, r.profit))

first_fails : (s t : Bool) → s ≡ false → (s && t) ≡ false
first_fails s t h = rw h refl

second_fails : (s t : Bool) → t ≡ false → (s && t) ≡ false
second_fails true t h = h
second_fails false t h = refl

both_pass : (s t : Bool) → s ≡ true → t ≡ true → (s && t) ≡ true
both_pass s t h k = rw (h, k) refl

abbrev IsFirstWith : List Listed → ℕ → ℕ → Type 0
IsFirstWith points profit i = IsPartitionPoint (λ l. l.point.profit < profit) (λ l. profit ≤ l.point.profit) points i

-- no point has the profit
pub none_dominates : (points : List Listed) (b : Box2) (i : ℕ) → IsFirstWith points b.p_hi i → length points ≤ i →
    list_any (dominates_box b) points ≡ false
none_dominates points b i first end =
    list_any_none (dominates_box b) points (λ k d below.
    first_fails (nat_le b.p_hi (get_or points k d).point.profit) (nat_le (get_or points k d).point.time b.t_lo)
    (lt-leb b.p_hi (get_or points k d).point.profit (first.0 k d (omega arith) (omega arith))))

-- the first that has the profit decides
pub first_decides : (points : List Listed) (b : Box2) (i : ℕ) (l : Listed) → AllRise points → IsFirstWith points b.p_hi i →
    i < length points → l ≡ get_or points i l → nat_le l.point.time b.t_lo ≡ list_any (dominates_box b) points
first_decides points b i l rise first below here =
    let enough : b.p_hi ≤ (get_or points i l).point.profit = first.1 i l (omega arith) below in
    let time : (get_or points i l).point.time ≡ l.point.time = ap (λ x. x.point.time) (sym here) in
    elim (cases_lt b.t_lo l.point.time) [
      | inl late ↦
          lt-leb l.point.time b.t_lo late
          ∙ sym (list_any_none (dominates_box b) points (λ k d within. fails k d within late))
      | inr early ↦
          le-leb l.point.time b.t_lo early
          ∙ sym (list_any_at (dominates_box b) points i l below
          (both_pass (nat_le b.p_hi (get_or points i l).point.profit) (nat_le (get_or points i l).point.time b.t_lo)
          (le-leb _ _ enough) (le-leb _ _ (omega arith))))
    ]
  where
    fails : (k : ℕ) (d : Listed) → k < length points → b.t_lo < l.point.time → dominates_box b (get_or points k d) ≡ false
    fails k d within late =
        elim (cases_lt k i) [
          | inl before ↦
              first_fails (nat_le b.p_hi (get_or points k d).point.profit) (nat_le (get_or points k d).point.time b.t_lo)
              (lt-leb b.p_hi (get_or points k d).point.profit (first.0 k d (omega arith) before))
          | inr behind ↦
              second_fails (nat_le b.p_hi (get_or points k d).point.profit) (nat_le (get_or points k d).point.time b.t_lo)
              (lt-leb (get_or points k d).point.time b.t_lo (later k d within behind late))
        ]
      where
        later : (k : ℕ) (d : Listed) → k < length points → i ≤ k → b.t_lo < l.point.time → b.t_lo < (get_or points k d).point.time
        later k d within behind late =
            elim (cases_eq k i) [
              | inl same ↦
                  let at : get_or points k d ≡ get_or points i l = ap (λ n. get_or points n d) same ∙ get_or-default points i d l below in
                  let is : (get_or points k d).point.time ≡ l.point.time = ap (λ x. x.point.time) (at ∙ sym here) in
                  omega arith
              | inr apart ↦
                  let rises = rises_later points rise i k d (omega arith) within in
                  let at : get_or points i d ≡ get_or points i l = get_or-default points i d l below in
                  let is : (get_or points i d).point.time ≡ l.point.time = ap (λ x. x.point.time) (at ∙ sym here) in
                  omega (arith, rises.time)
            ]
