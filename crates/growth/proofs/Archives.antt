-- A list of points improves on itself and on what it improved before.
use Rattle.std.proofs.Common.{◌≡◌, ◌↔◌, IsTrue, sym, ℕ, zero, suc, ◌≤◌, Bool, true, false, ◌&&◌, ◌||◌, nat_le, List, [], ◌∷◌, refl, ap, ◌∙◌, arith}
use Rattle.std.specs.List.{Contains, list_any}
use Rattle.std.proofs.lemmas.Bool.Decides.{nat_tests}
use Rattle.orienteering.specs.Frontier.{WeaklyDominates, IsCovered}
use Rattle.orienteering.specs.declared.Point.{Point}
use Rattle.orienteering.specs.declared.Box2.{Box2}
use Rattle.orienteering.specs.declared.Listed.{Listed}
use Rattle.orienteering.proofs.Lists.{AllByRecursion-contains, AllByRecursion-from_contains, AllByRecursion-weaker, found_by}
use Rattle.orienteering.specs.Decision.{dominates_box}
use Rattle.growth.specs.Growth.{Improves}

pub covered_again : (v : Point) (points better : List Listed) → Improves points better → IsCovered v points → IsCovered v better
covered_again v points better i (l, held, over) =
    let again = AllByRecursion-contains (λ (l : Listed). IsCovered l.point better) points l i.covered held in
    let first : WeaklyDominates again.0.point l.point = again.2 in (
      again.0,
      again.1,
      record { profit = omega (arith, first.profit, over.profit); time = omega (arith, first.time, over.time) },
    )

pub improves_same : (points : List Listed) → Improves points points
improves_same points =
    record {
      covered = AllByRecursion-from_contains (λ (l : Listed). IsCovered l.point points) points
          (λ l held. (l, held, record { profit = omega arith; time = omega arith }));
    }

pub improves_then : (points better best : List Listed) → Improves points better → Improves better best → Improves points best
improves_then points better best i j =
    record {
      covered = AllByRecursion-weaker (λ (l : Listed). IsCovered l.point better) (λ (l : Listed). IsCovered l.point best)
          (λ l c. covered_again l.point better best j c) points i.covered;
    }

-- a list that holds an element that passes has one that does
some_passes : {X : Type 0} (test : X → Bool) (xs : List X) (x : X) → Contains xs x → test x ≡ true → list_any test xs ≡ true
some_passes test [] x (k, below, same) e = absurd (omega arith)
some_passes test (y ∷ ys) x (zero, below, same) e = ap (λ b. b || list_any test ys) (ap test same ∙ e)
some_passes test (y ∷ ys) x (suc k, below, same) e =
    let rest = some_passes test ys x (k, omega arith, same) e in
    elim (test y) as (λ b. (b || list_any test ys) ≡ true) [ true ↦ refl | false ↦ rest ]

both_in : (a b c d : ℕ) → a ≤ b → c ≤ d → (nat_le a b && nat_le c d) ≡ true
both_in a b c d h k = grind (arith, nat_tests)

both_out : (a b c d : ℕ) → (nat_le a b && nat_le c d) ≡ true → (a ≤ b) × (c ≤ d)
both_out a b c d h = grind (arith, nat_tests)

-- a point that weakly dominates a box is covered only by points that do
pub covers_box : (v : Point) (b : Box2) (points : List Listed) → IsCovered v points → b.p_hi ≤ v.profit → v.time ≤ b.t_lo →
    list_any (dominates_box b) points ≡ true
covers_box v b points (l, held, over) high low =
    some_passes (dominates_box b) points l held
    (both_in b.p_hi l.point.profit l.point.time b.t_lo (omega (arith, over.profit)) (omega (arith, over.time)))

-- a box that a point of a list weakly dominates is one that a point of a better list does
pub dominated_again : (b : Box2) (points better : List Listed) → Improves points better →
    list_any (dominates_box b) points ≡ true → list_any (dominates_box b) better ≡ true
dominated_again b points better i h =
    let f = found_by (dominates_box b) points h in
    let w = both_out b.p_hi f.0.point.profit f.0.point.time b.t_lo f.2 in
    covers_box f.0.point b better
    (AllByRecursion-contains (λ (l : Listed). IsCovered l.point better) points f.0 i.covered f.1) w.0 w.1

-- the two tests pass together
same_test : (a b : Bool) → (a ≡ true → b ≡ true) → (b ≡ true → a ≡ true) → a ≡ b
same_test true b f g = sym (f refl)
same_test false true f g = g refl
same_test false false f g = refl

-- some point weakly dominates the box exactly where the best corner is covered
pub best_corner : (a : Bool) (b : Box2) (points : List Listed) →
    IsTrue a ↔ IsCovered (record { profit = b.p_hi; time = b.t_lo }) points → a ≡ list_any (dominates_box b) points
best_corner a b points tested = same_test a (list_any (dominates_box b) points) forth back
  where
    forth : a ≡ true → list_any (dominates_box b) points ≡ true
    forth e = covers_box (record { profit = b.p_hi; time = b.t_lo }) b points (tested.0 e) (omega arith) (omega arith)

    back : list_any (dominates_box b) points ≡ true → a ≡ true
    back e =
        let f = found_by (dominates_box b) points e in
        let w = both_out b.p_hi f.0.point.profit f.0.point.time b.t_lo f.2 in
        tested.1 (f.0, f.1, record { profit = w.0; time = w.1 })
