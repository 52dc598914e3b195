-- The leaves of a tree have no other values than its root.
use Rattle.std.proofs.Common.{◌≡◌, ℕ, Bool, true, false, cond, List, [], ◌∷◌, ◌++◌, refl, subst, arith}
use Rattle.std.specs.List.{AllByRecursion, list_any}
use Rattle.std.specs.declared.option.Option.TheVariants.{None, Some}
use Rattle.orienteering.specs.Preorder.{Leaf}
use Rattle.orienteering.specs.declared.Box2.{Box2}
use Rattle.orienteering.specs.declared.Listed.{Listed}
use Rattle.orienteering.specs.declared.Step.{Step}
use Rattle.orienteering.specs.declared.Step.TheVariants.{Refused, Ends, Child, Children}
use Rattle.orienteering.proofs.Lists.{AllByRecursion-push}
use Rattle.orienteering.specs.declared.Price.{Price}
use Rattle.orienteering.specs.RegionRules.{RegionRules}
use Rattle.orienteering.specs.Replay.{too_many_labels, bounds}
use Rattle.orienteering.specs.Decision.{part_of, cut_at, is_above, dominates_box, passes_tight, refuse, leaf_if, split_step, replay_step, cut_step, cutoff_step, node_step, Branch}
use Rattle.orienteering.specs.Size.{IsWeight}
use Rattle.orienteering.specs.declared.Split.{Split}
use Rattle.orienteering.specs.declared.Split.TheVariants.{Profit as ByProfit, Time as ByTime, Count as ByCount, Arc as ByArc}
use Rattle.orienteering.specs.declared.Node.{Node}
use Rattle.orienteering.specs.declared.Node.TheVariants.{Profit, Time, Count, Arc, Cut, Dominated, Cutoff, Stuck, Left}
use Rattle.orienteering.specs.declared.NodeCause.{NodeCause}
use Rattle.orienteering.specs.declared.NodeCause.TheVariants.{NoProgress, CutUnderCut, Price as Unfit, Critical, NoSuchCut, NotAbove, NotDominated, NotStuck}
use Rattle.orienteering.specs.declared.CheckFail.{CheckFail}
use Rattle.orienteering.specs.declared.CheckFail.TheVariants.{TooManyLabels}
use Rattle.growth.specs.Reading.{Reading, after, IsTree}
use Rattle.growth.specs.Growth.{children_of, LiesWithin, Shrinks, SplitsShrink}
use Rattle.growth.proofs.Reading.{goes_on}

-- what each step hands on from a branch to those below it, each leaf has
pub leaves_have : {P N E : Type 0} (step : ℕ → P → N → Step P E) (Good : P → Type 0) →
    ((p : P) (n : N) → Good p → AllByRecursion Good (children_of (step 0 p n))) →
    (found : List (Leaf P N)) (pending : List P) (ns : List N) (r : Reading P N) → after step found pending ns ≡ Some r →
    AllByRecursion (λ l. Good l.branch) found → AllByRecursion Good pending → AllByRecursion (λ l. Good l.branch) r.found
leaves_have {P} {N} step Good keeps found pending [] r e a g =
    let here : Reading P N = record { found = found; pending = pending } in
    let same : here ≡ r = cc in
    subst (λ (s : Reading P N). AllByRecursion (λ (l : Leaf P N). Good l.branch) s.found) same a
leaves_have step Good keeps found [] (n ∷ ns) r e a g = absurd (cc)
leaves_have {P} {N} step Good keeps found (p ∷ ps) (n ∷ ns) r e a g =
    elim (step 0 p n) as (λ s. AllByRecursion Good (children_of s) → goes_on step found p ps n ns s ≡ Some r →
    AllByRecursion (λ (l : Leaf P N). Good l.branch) r.found) [
      | Refused w ↦ λ k h. absurd (cc)
      | Ends ↦ λ k h.
          let l : Leaf P N = record { branch = p; node = n } in
          leaves_have step Good keeps (found ++ l ∷ []) ps ns r h
          (AllByRecursion-push (λ (l : Leaf P N). Good l.branch) found l a g.0) g.1
      | Child q ↦ λ k h. leaves_have step Good keeps found (q ∷ ps) ns r h a (k.0, g.1)
      | Children q t ↦ λ k h. leaves_have step Good keeps found (q ∷ t ∷ ps) ns r h a (k.0, (k.1.0, g.1))
    ] (keeps p n g.0) e

lies_then : (a b c : Box2) → LiesWithin a b → LiesWithin b c → LiesWithin a c
lies_then a b c x y =
    record {
      p_low = omega (arith, x.p_low, y.p_low);
      p_high = omega (arith, x.p_high, y.p_high);
      t_low = omega (arith, x.t_low, y.t_low);
      t_high = omega (arith, x.t_high, y.t_high);
    }

pub shrinks_then : {R : Type 0} (rules : RegionRules R) (top r s : R) → Shrinks rules top r → Shrinks rules r s → Shrinks rules top s
shrinks_then rules top r s x y b e =
    let inner = y b e in
    let outer = x inner.0 inner.1 in
    (outer.0, outer.1, lies_then b inner.0 outer.0 inner.2 outer.2)

module _ {R : Type 0} (rules : RegionRules R) (Proper : R → Type 0) (weight : R → ℕ) (weighs : IsWeight rules Proper weight)
    (shrinks : SplitsShrink rules Proper) (points : List Listed) (top : R) where
  -- a proper region that has no other values than the top
  pub record IsBelow (p : Branch R) : Type 0 where
    pub proper : Proper p.region
    pub shrunk : Shrinks rules top p.region

  abbrev Keeps : Step (Branch R) CheckFail → Type 0
  Keeps s = AllByRecursion IsBelow (children_of s)

  leaf_below : (p : Branch R) (b : Bool) (cause : NodeCause) → Keeps (leaf_if rules points 0 p b cause)
  leaf_below p true cause = tt
  leaf_below p false cause = tt

  split_below : (p : Branch R) (s : Split) → IsBelow p → Keeps (split_step rules points 0 p s)
  split_below p s g =
      elim (rules.split p.region s) as (λ o. rules.split p.region s ≡ o → Keeps (elim o [
        | None ↦ refuse rules points 0 p NoProgress
        | Some parts ↦ Children (part_of p parts.0) (part_of p parts.1)
      ])) [
        | None ↦ λ e. tt
        | Some parts ↦ λ e.
            let proper = weighs.split_proper p.region s parts.0 parts.1 g.proper e in
            let less = shrinks p.region s parts.0 parts.1 g.proper e in (
              record { proper = proper.0; shrunk = shrinks_then rules top p.region parts.0 g.shrunk less.0 },
              (record { proper = proper.1; shrunk = shrinks_then rules top p.region parts.1 g.shrunk less.1 }, tt),
            )
      ] refl

  replay_below : (p : Branch R) (price : Price) (critical : List ℕ) → IsBelow p →
      Keeps (replay_step rules points 0 p price critical)
  replay_below p price critical g =
      elim (rules.replay p.region price critical) as (λ o. Keeps (elim o [
        | too_many_labels ↦ Refused (TooManyLabels 0)
        | bounds b ↦ Child (record {
          region = p.region;
          cuts = p.cuts ++ record { alpha = price.alpha; beta = price.beta; bound = b } ∷ [];
          under_cut = true;
        })
      ])) [
        | too_many_labels ↦ tt
        | bounds b ↦ (record { proper = g.proper; shrunk = g.shrunk }, tt)
      ]

  cut_below : (p : Branch R) (price : Price) (critical : List ℕ) → IsBelow p → Keeps (cut_step rules points 0 p price critical)
  cut_below p price critical g =
      elim p.under_cut as (λ u. Keeps (cond u (refuse rules points 0 p CutUnderCut)
      (elim (rules.price_refusal p.region price) [
        | Some why ↦ refuse rules points 0 p (Unfit why)
        | None ↦ cond (rules.is_critical_set p.region critical) (replay_step rules points 0 p price critical)
            (refuse rules points 0 p Critical)
      ]))) [
        | true ↦ tt
        | false ↦ elim (rules.price_refusal p.region price) as (λ o. Keeps (elim o [
          | Some why ↦ refuse rules points 0 p (Unfit why)
          | None ↦ cond (rules.is_critical_set p.region critical) (replay_step rules points 0 p price critical)
              (refuse rules points 0 p Critical)
        ])) [
          | Some why ↦ tt
          | None ↦ elim (rules.is_critical_set p.region critical) as (λ b.
              Keeps (cond b (replay_step rules points 0 p price critical) (refuse rules points 0 p Critical))) [
                | true ↦ replay_below p price critical g
                | false ↦ tt
              ]
        ]
      ]

  cutoff_below : (p : Branch R) (k : ℕ) → Keeps (cutoff_step rules points 0 p k)
  cutoff_below p k =
      elim (cut_at p.cuts k) as (λ o. Keeps (elim o [
        | None ↦ refuse rules points 0 p NoSuchCut
        | Some c ↦ leaf_if rules points 0 p (passes_tight rules (is_above c) p.region) NotAbove
      ])) [
        | None ↦ tt
        | Some c ↦ leaf_below p (passes_tight rules (is_above c) p.region) NotAbove
      ]

  step_below : (p : Branch R) (n : Node) → IsBelow p → Keeps (node_step rules points 0 p n)
  step_below p (Profit v) g = split_below p (ByProfit v) g
  step_below p (Time v) g = split_below p (ByTime v) g
  step_below p (Count c) g = split_below p (ByCount c) g
  step_below p (Arc j k) g = split_below p (ByArc j k) g
  step_below p (Cut price critical) g = cut_below p price critical g
  step_below p Dominated g = leaf_below p (passes_tight rules (λ b. list_any (dominates_box b) points) p.region) NotDominated
  step_below p (Cutoff k) g = cutoff_below p k
  step_below p (Stuck reason) g = leaf_below p (rules.is_stuck p.region reason) NotStuck
  step_below p Left g = tt

-- each leaf of a tree has no other values than the branch of the tree
pub leaves_shrink : {R : Type 0} (rules : RegionRules R) (Proper : R → Type 0) (weight : R → ℕ)
    (weighs : IsWeight rules Proper weight) (shrinks : SplitsShrink rules Proper) (points : List Listed) (p : Branch R) (nodes : List Node)
    (leaves : List (Leaf (Branch R) Node)) → IsTree (node_step rules points) p nodes leaves → Proper p.region →
    AllByRecursion (λ l. IsBelow rules Proper weight weighs shrinks points p.region l.branch) leaves
leaves_shrink {R} rules Proper weight weighs shrinks points p nodes leaves e proper =
    let here : Reading (Branch R) Node = record { found = leaves; pending = [] } in
    leaves_have (node_step rules points) (IsBelow rules Proper weight weighs shrinks points p.region)
    (step_below rules Proper weight weighs shrinks points p.region) [] (p ∷ []) nodes here e tt (
      record {
        proper = proper;
        shrunk = λ b e. (b, e, record { p_low = omega arith; p_high = omega arith; t_low = omega arith; t_high = omega arith });
      },
      tt,
    )
