-- The tight boxes of regions: those of parts lie in those of the whole, and the plan of a decided region serves them.
use Rattle.std.proofs.Common.{◌≡◌, ℕ, ◌≤◌, true, false, cond, ◌||◌, nat_lt, List, refl, sym, ap, subst, arith}
use Rattle.std.specs.declared.option.Option.{Option}
use Rattle.std.specs.declared.option.Option.TheVariants.{None, Some}
use Rattle.std.proofs.lemmas.Bool.Decides.{nat_tests}
use Rattle.orienteering.specs.Instance.{Problem}
use Rattle.orienteering.specs.Frontier.{point_of, LiesIn, WeaklyDominates}
use Rattle.orienteering.specs.Region.{Region, tight_box, is_undecided, IsProper, IsRealised, first_child, second_child}
use Rattle.orienteering.specs.RegionTests.{is_empty_box}
use Rattle.orienteering.specs.Decide.{region_rules}
use Rattle.orienteering.specs.declared.Box2.{Box2}
use Rattle.orienteering.specs.declared.Point.{Point}
use Rattle.orienteering.specs.declared.Split.TheVariants as split
use Rattle.orienteering.proofs.Decide.{is_split}
use Rattle.region_ctx.specs.Laws.{IsWithin}
use Rattle.region_ctx.proofs.Narrower.{children_are_within}
use Rattle.growth.specs.Growth.{Shrinks, SplitsShrink, IsResort}
use Rattle.growth.specs.declared.world.Resort.TheVariants.{Halves, Realised}

no_less : (a b c d : ℕ) → (nat_lt a b || nat_lt c d) ≡ false → (b ≤ a) × (d ≤ c)
no_less a b c d h = (grind (arith, nat_tests), grind (arith, nat_tests))

less_fails : (a b c d : ℕ) → b ≤ a → d ≤ c → (nat_lt a b || nat_lt c d) ≡ false
less_fails a b c d h k = grind (arith, nat_tests)

module _ (p : Problem) (limit : ℕ) where
  -- a tight box that is there
  record IsTight (r : Region) (b : Box2) : Type 0 where
    is : tight_box p r ≡ b
    profits : b.p_lo ≤ b.p_hi
    times : b.t_lo ≤ b.t_hi

  tight_is : (r : Region) (b : Box2) → (region_rules p limit).tight r ≡ Some b → IsTight r b
  tight_is r b e =
      elim (is_empty_box (tight_box p r)) as (λ t. is_empty_box (tight_box p r) ≡ t →
      ◌≡◌ {A = Option Box2} (cond t None (Some (tight_box p r))) (Some b) → IsTight r b) [
        | true ↦ λ h m. absurd (cc)
        | false ↦ λ h m.
            let same : tight_box p r ≡ b = cc in
            let box = tight_box p r in
            let filled = no_less box.p_hi box.p_lo box.t_hi box.t_lo h in
            subst (λ x. IsTight r x) same (record { is = refl; profits = filled.0; times = filled.1 })
      ] refl e

  is_tight : (r : Region) → (tight_box p r).p_lo ≤ (tight_box p r).p_hi → (tight_box p r).t_lo ≤ (tight_box p r).t_hi →
      (region_rules p limit).tight r ≡ Some (tight_box p r)
  is_tight r h k =
      let box = tight_box p r in
      ap (λ t. cond t None (Some box)) (less_fails box.p_hi box.p_lo box.t_hi box.t_lo h k)

  shrinks_to : (r s : Region) → IsWithin (tight_box p s) (tight_box p r) → Shrinks (region_rules p limit) r s
  shrinks_to r s w b e =
      let t = tight_is s b e in
      let inner : IsWithin b (tight_box p r) = subst (λ x. IsWithin x (tight_box p r)) t.is w in (
        tight_box p r,
        is_tight r (omega (arith, inner.p_low, inner.p_high, t.profits)) (omega (arith, inner.t_low, inner.t_high, t.times)),
        record { p_low = inner.p_low; p_high = inner.p_high; t_low = inner.t_low; t_high = inner.t_high },
      )

  -- the parts of a split have no other values than the whole
  pub splits_shrink : SplitsShrink (region_rules p limit) (IsProper p)
  splits_shrink r s a b proper e =
      let made = is_split p limit r s a b e in
      let within = children_are_within p r s made.progress in (
        subst (λ x. Shrinks (region_rules p limit) r x) made.first (shrinks_to r (first_child r s) within.0),
        subst (λ x. Shrinks (region_rules p limit) r x) made.second (shrinks_to r (second_child r s) within.1),
      )

  -- an undecided arc splits its region
  pub arc_serves : (r : Region) (i j : ℕ) → is_undecided r i j ≡ true → IsResort (region_rules p limit) p r (Halves (split.Arc i j))
  arc_serves r i j h =
      let parts : Region × Region = (first_child r (split.Arc i j), second_child r (split.Arc i j)) in
      (parts, ap (λ t. cond t (Some parts) None) h)

  -- a plan that is realised weakly dominates the best corner of the tight box
  pub plan_serves : (r : Region) (plan : List (List ℕ)) → IsRealised p r plan → IsResort (region_rules p limit) p r (Realised plan)
  plan_serves r plan is = (
    is.is_plan,
    λ b e.
        let t = tight_is r b e in
        let best : Point = record { profit = b.p_hi; time = b.t_lo } in
        let profits = t.profits in
        let times = t.times in
        let w : WeaklyDominates (point_of p plan) best =
        is.best best (subst (LiesIn best) (sym t.is)
        (record { p_low = omega arith; p_high = omega arith; t_low = omega arith; t_high = omega arith })) in
        (w.profit, w.time),
  )
