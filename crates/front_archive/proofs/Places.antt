-- Where a point stands in a list of points that rise.
use Rattle.std.proofs.Common.{◌≡◌, ◌↔◌, ℕ, zero, suc, ◌+◌, ◌-◌, ◌<◌, ◌≤◌, Bool, true, false, not, ◌&&◌, cond, nat_le, nat_lt, IsTrue, List, [], ◌∷◌, ◌++◌, length, get_or, take, drop, Some, refl, ap, ap₂, sym, subst, ◌∙◌, arith, inl, inr, length-append, length-take, length-drop}
use Rattle.std.proofs.lemmas.Bool.{cases_lt}
use Rattle.std.proofs.lemmas.Bool.Decides.{nat_tests}
use Rattle.std.specs.List.{filter, splice}
use Rattle.std.specs.List.Sorted.{IsPartitionPoint}
use Rattle.orienteering.specs.Frontier.{WeaklyDominates, RisesTo, AllRise, IsCovered}
use Rattle.orienteering.proofs.Lists.{get_or-default}
use Rattle.std.proofs.lemmas.List.{get_or_append_left, get_or-append_right, get_or-take, get_or-drop, map-id}
use Rattle.std.proofs.lemmas.Iterator.{items_from_drains}
use Rattle.std.proofs.lemmas.Iterator.Adapters.{YieldsList-from_once}
use Rattle.std.specs.Iterator.{Drains}
use Rattle.std.specs.Iterator.Adapters.{once_item, once_steps}
use Rattle.front_archive.proofs.Rising.{profits_rise}
use Rattle.orienteering.specs.declared.Point.{Point}
use Rattle.orienteering.specs.declared.Listed.{Listed}
use Rattle.front_archive.specs.Archive.{is_weakly_dominated_by, still_held, with_entry}

-- the test as a fact, both ways
passes : (m n : ℕ) → m ≤ n → nat_le m n ≡ true
passes m n h = grind (arith, nat_tests)

passed : (m n : ℕ) → nat_le m n ≡ true → m ≤ n
passed m n h = grind (arith, nat_tests)

-- the last entry that isn't later than the point covers it, if any does
pub last_covers : (points : List Listed) → AllRise points → (v : Point) (count : ℕ) → count ≤ length points →
    IsPartitionPoint (λ h. h.point.time ≤ v.time) (λ h. v.time < h.point.time) points count → 0 < count →
    (d : Listed) → IsTrue (nat_le v.profit (get_or points (count - 1) d).point.profit) ↔ IsCovered v points
last_covers points r v count bound place some d = (covers, covered)
  where
    covers : IsTrue (nat_le v.profit (get_or points (count - 1) d).point.profit) → IsCovered v points
    covers h = (
      get_or points (count - 1) d,
      (count - 1, omega arith, get_or-default points (count - 1) (get_or points (count - 1) d) d (omega arith)),
      record {
        profit = passed v.profit (get_or points (count - 1) d).point.profit h;
        time = place.0 (count - 1) d (omega arith) (omega arith);
      },
    )

    covered : IsCovered v points → IsTrue (nat_le v.profit (get_or points (count - 1) d).point.profit)
    covered (l, (i, below, same), w) =
        elim (cases_lt i count) [
          | inl less ↦
              let up = profits_rise points r i (count - 1) d (omega arith) (omega arith) in
              passes v.profit (get_or points (count - 1) d).point.profit (omega (
                arith,
                up,
                w.profit,
                ap (λ (x : Listed). x.point.profit) same,
                ap (λ (x : Listed). x.point.profit) (get_or-default points i d l below),
              ))
          | inr more ↦
              absurd (omega (arith, place.1 i l more below, w.time, ap (λ (x : Listed). x.point.time) same))
        ]

-- the place of a point that isn't covered: the entries before `low` are below it in both, those from `high` on above it
-- in both, and it weakly dominates those between
pub record StandsBetween (v : Point) (points : List Listed) (low high : ℕ) : Type 0 where
  in_order : low ≤ high
  before : (k : ℕ) (d : Listed) → k < low → RisesTo (get_or points k d).point v
  between : (k : ℕ) (d : Listed) → low ≤ k → k < high → WeaklyDominates v (get_or points k d).point
  behind : (k : ℕ) (d : Listed) → high ≤ k → k < length points → RisesTo v (get_or points k d).point

module _ (points : List Listed) (v : Point) (uncovered : IsCovered v points → ⊥) where
  none_covers : (k : ℕ) (d : Listed) → k < length points → (get_or points k d).point.time ≤ v.time →
      v.profit ≤ (get_or points k d).point.profit → ⊥
  none_covers k d below time profit =
      uncovered (
        get_or points k d,
        (k, below, get_or-default points k (get_or points k d) d below),
        record { profit = profit; time = time },
      )

  pub stands_between : (entry : Listed) (low high : ℕ) → low ≤ length points → high ≤ length points →
      IsPartitionPoint (λ h. h.point.time < v.time) (λ h. v.time ≤ h.point.time) points low →
      IsPartitionPoint (λ h. h.point.profit ≤ v.profit) (λ h. v.profit < h.point.profit) points high →
      StandsBetween v points low high
  stands_between entry low high low_in high_in by_time by_profit =
      let ordered : low ≤ high = elim (cases_lt high low) [
        | inl less ↦
            let time = by_time.0 high entry (omega arith) less in
            let profit = by_profit.1 high entry (omega arith) (omega arith) in
            absurd (none_covers high entry (omega arith) (omega (arith, time)) (omega (arith, profit)))
        | inr more ↦ more
      ] in
      record {
        in_order = ordered;
        before = λ k d below.
            let time = by_time.0 k d (omega arith) below in
            elim (cases_lt (get_or points k d).point.profit v.profit) [
              | inl less ↦ record { profit = less; time = time }
              | inr more ↦ absurd (none_covers k d (omega arith) (omega (arith, time)) more)
            ];
        between = λ k d above below. record {
          profit = by_profit.0 k d (omega arith) below;
          time = by_time.1 k d above (omega arith);
        };
        behind = λ k d above below.
            let profit = by_profit.1 k d above below in
            elim (cases_lt v.time (get_or points k d).point.time) [
              | inl less ↦ record { profit = profit; time = less }
              | inr more ↦ absurd (none_covers k d below more (omega (arith, profit)))
            ];
      }

-- a test that passes exactly the first entries keeps these
filter-front : {X : Type 0} (test : X → Bool) (xs : List X) (n : ℕ) →
    ((k : ℕ) (d : X) → k < n → k < length xs → test (get_or xs k d) ≡ true) →
    ((k : ℕ) (d : X) → n ≤ k → k < length xs → test (get_or xs k d) ≡ false) → filter test xs ≡ take n xs
filter-front test [] zero passing failing = refl
filter-front test [] (suc n) passing failing = refl
filter-front test (x ∷ xs) zero passing failing =
    ap (λ b. cond b (x ∷ filter test xs) (filter test xs)) (failing 0 x (omega arith) (omega arith))
    ∙ filter-front test xs zero (λ k d h l. absurd (omega arith)) (λ k d h l. failing (suc k) d (omega arith) (omega arith))
filter-front test (x ∷ xs) (suc n) passing failing =
    ap (λ b. cond b (x ∷ filter test xs) (filter test xs)) (passing 0 x (omega arith) (omega arith))
    ∙ ap (λ ys. x ∷ ys) (filter-front test xs n (λ k d h l. passing (suc k) d (omega arith) (omega arith))
    (λ k d h l. failing (suc k) d (omega arith) (omega arith)))

-- a test that passes exactly the last entries keeps these
filter-back : {X : Type 0} (test : X → Bool) (xs : List X) (n : ℕ) →
    ((k : ℕ) (d : X) → k < n → k < length xs → test (get_or xs k d) ≡ false) →
    ((k : ℕ) (d : X) → n ≤ k → k < length xs → test (get_or xs k d) ≡ true) → filter test xs ≡ drop n xs
filter-back test [] zero failing passing = refl
filter-back test [] (suc n) failing passing = refl
filter-back test (x ∷ xs) zero failing passing =
    ap (λ b. cond b (x ∷ filter test xs) (filter test xs)) (passing 0 x (omega arith) (omega arith))
    ∙ ap (λ ys. x ∷ ys) (filter-back test xs zero (λ k d h l. absurd (omega arith))
    (λ k d h l. passing (suc k) d (omega arith) (omega arith)))
filter-back test (x ∷ xs) (suc n) failing passing =
    ap (λ b. cond b (x ∷ filter test xs) (filter test xs)) (failing 0 x (omega arith) (omega arith))
    ∙ filter-back test xs n (λ k d h l. failing (suc k) d (omega arith) (omega arith))
    (λ k d h l. passing (suc k) d (omega arith) (omega arith))

-- two filters, one behind the other, are one
filter-filter : {X : Type 0} (f g : X → Bool) (xs : List X) → filter f (filter g xs) ≡ filter (λ x. g x && f x) xs
filter-filter f g [] = refl
filter-filter f g (x ∷ xs) =
    elim (g x) as (λ b. filter f (cond b (x ∷ filter g xs) (filter g xs))
    ≡ cond (b && f x) (x ∷ filter (λ y. g y && f y) xs) (filter (λ y. g y && f y) xs)) [
      | true ↦ ap (λ ys. cond (f x) (x ∷ ys) ys) (filter-filter f g xs)
      | false ↦ filter-filter f g xs
    ]

lower_kept : (p t q u : ℕ) → q < p → u < t → (not (nat_le q p && nat_le t u) && nat_lt q p) ≡ true
lower_kept p t q u h k = grind (arith, nat_tests)

lower_left : (p t q u : ℕ) → q ≤ p → t ≤ u → (not (nat_le q p && nat_le t u) && nat_lt q p) ≡ false
lower_left p t q u h k = grind (arith, nat_tests)

lower_above : (p t q u : ℕ) → p < q → (not (nat_le q p && nat_le t u) && nat_lt q p) ≡ false
lower_above p t q u h = grind (arith, nat_tests)

upper_kept : (p t q u : ℕ) → p < q → (not (nat_le q p && nat_le t u) && nat_lt p q) ≡ true
upper_kept p t q u h = grind (arith, nat_tests)

upper_left : (p t q u : ℕ) → q ≤ p → (not (nat_le q p && nat_le t u) && nat_lt p q) ≡ false
upper_left p t q u h = grind (arith, nat_tests)

-- what stands between is taken out, and the entry stands there
pub spliced : (entry : Listed) (points : List Listed) (low high : ℕ) → StandsBetween entry.point points low high →
    splice points low high (entry ∷ []) ≡ with_entry entry points
spliced entry points low high s =
    let p = entry.point.profit in
    let t = entry.point.time in
    let below : filter (λ (h : Listed). nat_lt h.point.profit p) (still_held entry points) ≡ take low points =
    filter-filter (λ (h : Listed). nat_lt h.point.profit p)
    (λ (h : Listed). not (is_weakly_dominated_by entry.point h.point)) points
    ∙ filter-front (λ (h : Listed). not (is_weakly_dominated_by entry.point h.point) && nat_lt h.point.profit p) points low
    (λ k d less l. let up = s.before k d less in lower_kept p t (get_or points k d).point.profit (get_or points k d).point.time up.profit up.time)
    (λ k d more l. elim (cases_lt k high) [
      | inl inside ↦
          let w = s.between k d more inside in
          lower_left p t (get_or points k d).point.profit (get_or points k d).point.time w.profit w.time
      | inr beyond ↦
          let up = s.behind k d beyond l in lower_above p t (get_or points k d).point.profit (get_or points k d).point.time up.profit
    ]) in
    let above : filter (λ (h : Listed). nat_lt p h.point.profit) (still_held entry points) ≡ drop high points =
    filter-filter (λ (h : Listed). nat_lt p h.point.profit)
    (λ (h : Listed). not (is_weakly_dominated_by entry.point h.point)) points
    ∙ filter-back (λ (h : Listed). not (is_weakly_dominated_by entry.point h.point) && nat_lt p h.point.profit) points high
    (λ k d less l. elim (cases_lt k low) [
      | inl inside ↦
          let up = s.before k d inside in
          upper_left p t (get_or points k d).point.profit (get_or points k d).point.time (omega (arith, up.profit))
      | inr beyond ↦
          let w = s.between k d beyond less in
          upper_left p t (get_or points k d).point.profit (get_or points k d).point.time w.profit
    ])
    (λ k d more l. let up = s.behind k d more l in upper_kept p t (get_or points k d).point.profit (get_or points k d).point.time up.profit) in
    ap₂ (λ xs ys. xs ++ (entry ∷ ys)) (sym below) (sym above)

module _ (points : List Listed) (entry : Listed) (low high : ℕ) (low_in : low ≤ length points) where
  front_long : length (take low points) ≡ low
  front_long = omega (arith, length-take low points)

  at_front : (k : ℕ) (d : Listed) → k < low → get_or (splice points low high (entry ∷ [])) k d ≡ get_or points k d
  at_front k d h =
      get_or_append_left (take low points) (entry ∷ drop high points) d k (omega (arith, front_long))
      ∙ get_or-take low points k d h

  at_entry : (d : Listed) → get_or (splice points low high (entry ∷ [])) low d ≡ entry
  at_entry d =
      get_or-append_right (take low points) (entry ∷ drop high points) low low d front_long (omega arith)
      ∙ ap (λ n. get_or (entry ∷ drop high points) n d) none
    where
      none : low - low ≡ 0
      none = omega arith

  at_back : (k : ℕ) (d : Listed) → low ≤ k → get_or (splice points low high (entry ∷ [])) (k + 1) d ≡ get_or points (high + (k - low)) d
  at_back k d h =
      get_or-append_right (take low points) (entry ∷ drop high points) low (k + 1) d front_long (omega arith)
      ∙ ap (λ n. get_or (entry ∷ drop high points) n d) one_more
      ∙ get_or-drop high points (k - low) d
    where
      one_more : k + 1 - low ≡ suc (k - low)
      one_more = omega (arith, h)

-- the list still rises
pub rises_spliced : (entry : Listed) (points : List Listed) (low high : ℕ) → low ≤ length points → high ≤ length points →
    StandsBetween entry.point points low high → AllRise points → AllRise (splice points low high (entry ∷ []))
rises_spliced entry points low high low_in high_in s r k d h =
    let long : length (splice points low high (entry ∷ [])) + high ≡ low + 1 + length points =
    omega (arith, length-append (take low points) (entry ∷ drop high points), front_long points entry low high low_in, length-drop high points) in
    elim (cases_lt (k + 1) low) [
      | inl less ↦ rw (at_front points entry low high low_in k d (omega arith), at_front points entry low high low_in (k + 1) d less) (r k d (omega arith))
      | inr more ↦ elim (cases_lt k low) [
        | inl less ↦
            let same : k + 1 ≡ low = omega arith in
            rw (at_front points entry low high low_in k d less, same, at_entry points entry low high low_in d) (s.before k d less)
        | inr beyond ↦ elim (cases_lt low k) [
          | inl after ↦
              let before_k : k - 1 + 1 ≡ k = omega arith in
              let at_k : get_or (splice points low high (entry ∷ [])) k d ≡ get_or points (high + (k - 1 - low)) d =
              rw before_k at (at_back points entry low high low_in (k - 1) d (omega arith)) in
              let next : high + (k - 1 - low) + 1 ≡ high + (k - low) = omega arith in
              rw (at_k, at_back points entry low high low_in k d beyond)
              (rw next at (r (high + (k - 1 - low)) d (omega arith)))
          | inr here ↦
              let same : k ≡ low = omega arith in
              let first : high + (low - low) ≡ high = omega arith in
              rw (same, at_entry points entry low high low_in d, at_back points entry low high low_in low d (omega arith), first)
              (s.behind high d (omega arith) (omega arith))
        ]
      ]
    ]

-- what is taken from the iterator of one entry
pub once_gives : {s : _} (entry : Listed) (xs : List Listed) → once_item s ≡ Some entry → Drains once_steps s xs → xs ≡ entry ∷ []
once_gives entry xs item (u, (t, yields, step)) =
    sym (map-id xs) ∙ items_from_drains xs (t, yields, λ _. (u, step)) (YieldsList-from_once (Some entry) item)

-- what is taken out and put in, for an entry that isn't covered
pub record PutIn (points : List Listed) (entry : Listed) (low high : ℕ) : Type 0 where
  pub in_order : low ≤ high
  pub list : splice points low high (entry ∷ []) ≡ with_entry entry points
  pub rising : AllRise (splice points low high (entry ∷ []))

pub puts_in : (points held : List Listed) → held ≡ points → AllRise points → (entry : Listed) →
    (IsCovered entry.point points → ⊥) → (low high : ℕ) → low ≤ length held → high ≤ length held →
    IsPartitionPoint (λ h. h.point.time < entry.point.time) (λ h. entry.point.time ≤ h.point.time) held low →
    IsPartitionPoint (λ h. h.point.profit ≤ entry.point.profit) (λ h. entry.point.profit < h.point.profit) held high →
    PutIn points entry low high
puts_in points held same rising entry uncovered low high low_in high_in by_time by_profit =
    subst (λ xs. AllRise xs → (IsCovered entry.point xs → ⊥) → PutIn xs entry low high) same
    (λ r u.
    let s = stands_between held entry.point u entry low high low_in high_in by_time by_profit in
    record {
      in_order = s.in_order;
      list = spliced entry held low high s;
      rising = rises_spliced entry held low high low_in high_in s r;
    })
    rising uncovered
