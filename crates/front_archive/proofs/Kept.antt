-- What an archive holds after a plan was taken, or was found covered.
use Rattle.std.proofs.Common.{◌≡◌, ◌↔◌, ℕ, zero, suc, ◌<◌, ◌≤◌, ◌⊎◌, Bool, true, false, not, ◌&&◌, cond, nat_le, nat_lt, List, [], ◌∷◌, refl, ap, sym, subst, ◌∙◌, inl, inr, arith}
use Rattle.std.proofs.lemmas.Bool.{cases_lt}
use Rattle.std.proofs.lemmas.Bool.Decides.{nat_tests}
use Rattle.std.proofs.lemmas.List.Elements.{All-filter, All-contains, All-contains_itself, filter_passes, Contains-append_left, Contains-append_right, Contains-append_cases}
use Rattle.std.specs.List.{AllByRecursion, Contains, filter}
use Rattle.orienteering.specs.Instance.{Problem}
use Rattle.orienteering.specs.Tour.{IsPlan}
use Rattle.orienteering.specs.Frontier.{point_of, WeaklyDominates, Dominates, IsReached, AllRise, IsCovered}
use Rattle.orienteering.specs.declared.Point.{Point}
use Rattle.orienteering.specs.declared.Listed.{Listed}
use Rattle.orienteering.proofs.Lists.{AllByRecursion-contains, AllByRecursion-from_contains, Contains-head, Contains-tail}
use Rattle.orienteering.proofs.Points.{only_itself}
use Rattle.front_archive.specs.Archive.{listed, is_weakly_dominated_by, still_held, with_entry, HasPoint, IsUndominated, HoldsTheBest}

-- ---- what a filter keeps

filter_part : {X : Type 0} (test : X → Bool) (xs : List X) (x : X) → Contains (filter test xs) x →
    Contains xs x × (test x ≡ true)
filter_part test xs x c = (
  All-contains (Contains xs) (filter test xs) x (All-filter test (Contains xs) xs (All-contains_itself xs)) c,
  All-contains (λ y. test y ≡ true) (filter test xs) x (filter_passes test xs) c,
)

filter_keeps : {X : Type 0} (test : X → Bool) (xs : List X) (x : X) → Contains xs x → test x ≡ true →
    Contains (filter test xs) x
filter_keeps test [] x (k, below, same) e = absurd (omega arith)
filter_keeps test (y ∷ ys) x (zero, below, same) e =
    let passes : test y ≡ true = ap test same ∙ e in
    rw passes (subst (λ z. Contains (y ∷ filter test ys) z) same (Contains-head y (filter test ys)))
filter_keeps test (y ∷ ys) x (suc k, below, same) e =
    let rest = filter_keeps test ys x (k, omega arith, same) e in
    elim (test y) as (λ b. Contains (cond b (y ∷ filter test ys) (filter test ys)) x) [
      | true ↦ Contains-tail x y (filter test ys) rest
      | false ↦ rest
    ]

-- ---- points

same_point : (a b : Point) → a.profit ≡ b.profit → a.time ≡ b.time → a ≡ b
same_point a b e f = λ i. record { profit = e i; time = f i }

weakly_itself : (a b : Point) → a ≡ b → WeaklyDominates a b
weakly_itself a b e =
    record { profit = omega (arith, ap (λ (x : Point). x.profit) e); time = omega (arith, ap (λ (x : Point). x.time) e) }

weakly_through : (a b c : Point) → WeaklyDominates a b → WeaklyDominates b c → WeaklyDominates a c
weakly_through a b c w u = record { profit = omega (arith, w.profit, u.profit); time = omega (arith, w.time, u.time) }

-- each of two weakly dominates the other only where they are the same
weakly_both : (a b : Point) → WeaklyDominates a b → WeaklyDominates b a → a ≡ b
weakly_both a b w u = same_point a b (omega (arith, w.profit, u.profit)) (omega (arith, w.time, u.time))

weakly_or_not : (a b : Point) → WeaklyDominates a b ⊎ (WeaklyDominates a b → ⊥)
weakly_or_not a b =
    elim (cases_lt a.profit b.profit) [
      | inl less ↦ inr (λ w. let p = w.profit in omega arith)
      | inr profit ↦ elim (cases_lt b.time a.time) [
        | inl less ↦ inr (λ w. let t = w.time in omega arith)
        | inr time ↦ inl (record { profit = profit; time = time })
      ]
    ]

-- what weakly dominates a point, and doesn't dominate it, is that point
not_better : (a v : Point) → WeaklyDominates a v → (Dominates a v → ⊥) → a ≡ v
not_better a v w n =
    elim (weakly_or_not v a) [
      | inl u ↦ weakly_both a v w u
      | inr u ↦ absurd (n (record { weakly = w; differ = λ e. u (weakly_itself v a (sym e)) }))
    ]

-- ---- the entries after a plan was taken

not_passed : (p t q u : ℕ) → q ≤ p → t ≤ u → not (nat_le q p && nat_le t u) ≡ true → ⊥
not_passed p t q u h k e = grind (arith, nat_tests)

not_poorer : (p t q u : ℕ) → p < q → not (nat_le q p && nat_le t u) ≡ true
not_poorer p t q u h = grind (arith, nat_tests)

not_later : (p t q u : ℕ) → u < t → not (nat_le q p && nat_le t u) ≡ true
not_later p t q u h = grind (arith, nat_tests)

less_passes : (m n : ℕ) → m < n → nat_lt m n ≡ true
less_passes m n h = grind (arith, nat_tests)

cons_cases : {X : Type 0} (x : X) (xs : List X) (y : X) → Contains (x ∷ xs) y → (y ≡ x) ⊎ Contains xs y
cons_cases x xs y (zero, below, same) = inl (sym same)
cons_cases x xs y (suc k, below, same) = inr (k, omega arith, same)

module _ (entry : Listed) (held : List Listed) (uncovered : IsCovered entry.point held → ⊥) where
  abbrev kept : Listed → Bool
  kept h = not (is_weakly_dominated_by entry.point h.point)

  abbrev lower : List Listed
  lower = filter (λ (h : Listed). nat_lt h.point.profit entry.point.profit) (still_held entry held)

  abbrev upper : List Listed
  upper = filter (λ (h : Listed). nat_lt entry.point.profit h.point.profit) (still_held entry held)

  entry_in : Contains (with_entry entry held) entry
  entry_in = Contains-append_right lower (entry ∷ upper) entry (Contains-head entry upper)

  below_stays : (h : Listed) → Contains held h → h.point.profit < entry.point.profit → h.point.time < entry.point.time →
      Contains (with_entry entry held) h
  below_stays h c less early =
      let passes : kept h ≡ true = not_later entry.point.profit entry.point.time h.point.profit h.point.time early in
      Contains-append_left lower (entry ∷ upper) h
      (filter_keeps (λ (g : Listed). nat_lt g.point.profit entry.point.profit) (still_held entry held) h
      (filter_keeps kept held h c passes) (less_passes h.point.profit entry.point.profit less))

  above_stays : (h : Listed) → Contains held h → entry.point.profit < h.point.profit → Contains (with_entry entry held) h
  above_stays h c more =
      let passes : kept h ≡ true = not_poorer entry.point.profit entry.point.time h.point.profit h.point.time more in
      Contains-append_right lower (entry ∷ upper) h
      (Contains-tail h entry upper
      (filter_keeps (λ (g : Listed). nat_lt entry.point.profit g.point.profit) (still_held entry held) h
      (filter_keeps kept held h c passes) (less_passes entry.point.profit h.point.profit more)))

  -- a held entry that the new point doesn't weakly dominate stays
  stays : (h : Listed) → Contains held h → (WeaklyDominates entry.point h.point → ⊥) → Contains (with_entry entry held) h
  stays h c n =
      elim (cases_lt entry.point.profit h.point.profit) [
        | inl more ↦ above_stays h c more
        | inr rest ↦ elim (cases_lt h.point.time entry.point.time) [
          | inr late ↦ absurd (n (record { profit = rest; time = late }))
          | inl early ↦ elim (cases_lt h.point.profit entry.point.profit) [
            | inl less ↦ below_stays h c less early
            | inr same ↦ absurd (uncovered (h, c, record { profit = same; time = omega (arith, early) }))
          ]
        ]
      ]

  was_kept : (h : Listed) → Contains (still_held entry held) h →
      (Contains held h × (WeaklyDominates entry.point h.point → ⊥)) ⊎ (h ≡ entry)
  was_kept h c =
      let part = filter_part kept held h c in
      inl (
        part.0,
        λ w. not_passed entry.point.profit entry.point.time h.point.profit h.point.time w.profit w.time part.1,
      )

  -- each entry was held and isn't weakly dominated by the new point, or is the new one
  where_from : (h : Listed) → Contains (with_entry entry held) h →
      (Contains held h × (WeaklyDominates entry.point h.point → ⊥)) ⊎ (h ≡ entry)
  where_from h c =
      elim (Contains-append_cases lower (entry ∷ upper) h c) [
        | inl l ↦ was_kept h (filter_part (λ (g : Listed). nat_lt g.point.profit entry.point.profit) (still_held entry held) h l).0
        | inr r ↦ elim (cons_cases entry upper h r) [
          | inl same ↦ inr same
          | inr u ↦ was_kept h (filter_part (λ (g : Listed). nat_lt entry.point.profit g.point.profit) (still_held entry held) h u).0
        ]
      ]

  module _ (rising : AllRise held) where
    undominated : (h : Listed) → Contains (with_entry entry held) h → IsUndominated held entry.point h.point
    undominated h c =
        elim (where_from h c) [
          | inl was ↦ record {
            known = inl (h, was.0, refl);
            by_held = λ l l_in d. d.differ (only_itself held rising l h l_in was.0 d.weakly);
            by_new = λ d. was.1 d.weakly;
          }
          | inr same ↦ subst (λ (g : Listed). IsUndominated held entry.point g.point) (sym same) (record {
            known = inr refl;
            by_held = λ l l_in d. uncovered (l, l_in, d.weakly);
            by_new = λ d. d.differ refl;
          })
        ]

    best_held : (v : Point) → IsUndominated held entry.point v → HasPoint (with_entry entry held) v
    best_held v u =
        elim u.known [
          | inl (h, c, same) ↦
              let n : WeaklyDominates entry.point h.point → ⊥ = λ w. u.by_new (record {
                weakly = subst (λ (x : Point). WeaklyDominates entry.point x) same w;
                differ = λ e. uncovered (h, c, weakly_itself h.point entry.point (same ∙ sym e));
              }) in
              (h, stays h c n, same)
          | inr same ↦ (entry, entry_in, sym same)
        ]

    best_points : (v : Point) → HasPoint (with_entry entry held) v ↔ IsUndominated held entry.point v
    best_points v = (
      λ has. subst (λ (x : Point). IsUndominated held entry.point x) has.2 (undominated has.0 has.1),
      best_held v,
    )

  covered_still : (v : Point) → IsCovered v held → IsCovered v (with_entry entry held)
  covered_still v (l, c, w) =
      elim (weakly_or_not entry.point l.point) [
        | inl u ↦ (entry, entry_in, weakly_through entry.point l.point v u w)
        | inr n ↦ (l, stays l c n, w)
      ]

  reached_still : (p : Problem) → IsReached p entry → AllByRecursion (IsReached p) held →
      AllByRecursion (IsReached p) (with_entry entry held)
  reached_still p own all =
      AllByRecursion-from_contains (IsReached p) (with_entry entry held)
      (λ h c. elim (where_from h c) [
        | inl was ↦ AllByRecursion-contains (IsReached p) held h all was.0
        | inr same ↦ subst (IsReached p) (sym same) own
      ])

  was_or_is : (h : Listed) → Contains (with_entry entry held) h → Contains held h ⊎ (h ≡ entry)
  was_or_is h c = elim (where_from h c) [ inl was ↦ inl was.0 | inr same ↦ inr same ]

-- after the plan was taken
pub taken_holds : (p : Problem) (plan : List (List ℕ)) (held : List Listed) → IsPlan p plan → AllRise held →
    (IsCovered (point_of p plan) held → ⊥) → HoldsTheBest p plan held (with_entry (listed p plan) held)
taken_holds p plan held valid rising uncovered =
    let entry = listed p plan in
    record {
      points = best_points entry held uncovered rising;
      entries = was_or_is entry held uncovered;
      reached = reached_still entry held uncovered p (record { plan = valid; value = refl });
      still_covered = covered_still entry held uncovered;
      now_covered = (entry, entry_in entry held uncovered, weakly_itself (point_of p plan) (point_of p plan) refl);
    }

-- where the plan's point is covered, all stays
pub covered_holds : (p : Problem) (plan : List (List ℕ)) (held : List Listed) → AllRise held →
    IsCovered (point_of p plan) held → HoldsTheBest p plan held held
covered_holds p plan held rising (l, l_in, w) =
    record {
      points = λ v. (λ has. subst (λ (x : Point). IsUndominated held (point_of p plan) x) has.2 (undominated_held has.0 has.1), best v);
      entries = λ h c. inl c;
      reached = λ all. all;
      still_covered = λ v c. c;
      now_covered = (l, l_in, w);
    }
  where
    undominated_held : (h : Listed) → Contains held h → IsUndominated held (point_of p plan) h.point
    undominated_held h c =
        record {
          known = inl (h, c, refl);
          by_held = λ m m_in d. d.differ (only_itself held rising m h m_in c d.weakly);
          by_new = λ d.
              let same = only_itself held rising l h l_in c (weakly_through l.point (point_of p plan) h.point w d.weakly) in
              d.differ (weakly_both (point_of p plan) h.point d.weakly (subst (λ (x : Point). WeaklyDominates x (point_of p plan)) same w));
        }

    best : (v : Point) → IsUndominated held (point_of p plan) v → HasPoint held v
    best v u =
        elim u.known [
          | inl has ↦ has
          | inr same ↦
              let lw = subst (λ (x : Point). WeaklyDominates l.point x) (sym same) w in
              (l, l_in, not_better l.point v lw (λ d. u.by_held l l_in d))
        ]
