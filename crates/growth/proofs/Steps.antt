-- The rule of nodes under a better list of points, and what an accepted node leaves to be done.
use Rattle.std.proofs.Common.{◌≡◌, ℕ, ◌≤◌, ◌<◌, Bool, true, false, cond, List, [], ◌∷◌, ◌++◌, reverse, ℤ, refl, ap, sym, subst, ◌∙◌, arith}
use Rattle.std.specs.List.{AllByRecursion, list_any, sum_by}
use Rattle.std.proofs.lemmas.List.Sums.{sum_by-cons}
use Rattle.std.specs.declared.option.Option.{Option}
use Rattle.std.specs.declared.option.Option.TheVariants.{None, Some}
use Rattle.orienteering.specs.Frontier.{IsCovered}
use Rattle.orienteering.specs.declared.Point.{Point}
use Rattle.orienteering.specs.declared.Box2.{Box2}
use Rattle.orienteering.specs.declared.Listed.{Listed}
use Rattle.orienteering.specs.declared.Step.{Step}
use Rattle.orienteering.specs.declared.Step.TheVariants.{Refused, Ends, Child, Children}
use Rattle.orienteering.proofs.TreeSize.{FitsStep}
use Rattle.orienteering.specs.declared.Price.{Price}
use Rattle.orienteering.specs.RegionRules.{RegionRules}
use Rattle.orienteering.specs.Replay.{Replay, too_many_labels, bounds}
use Rattle.orienteering.specs.Decision.{part_of, cut_at, is_above, dominates_box, passes_tight, refuse, leaf_if, split_step, replay_step, cut_step, cutoff_step, node_step, Branch}
use Rattle.growth.proofs.Size.{size}
use Rattle.orienteering.specs.declared.Split.{Split}
use Rattle.orienteering.specs.declared.Split.TheVariants.{Profit as ByProfit, Time as ByTime, Count as ByCount, Arc as ByArc}
use Rattle.orienteering.specs.declared.Node.{Node}
use Rattle.orienteering.specs.declared.Node.TheVariants.{Profit, Time, Count, Arc, Cut, Dominated, Cutoff, Stuck, Left}
use Rattle.orienteering.specs.declared.NodeCause.{NodeCause}
use Rattle.orienteering.specs.declared.NodeCause.TheVariants.{NoProgress, CutUnderCut, Price as Unfit, Critical, NoSuchCut, NotAbove, NotDominated, NotStuck}
use Rattle.orienteering.specs.declared.PriceRefusal.{PriceRefusal}
use Rattle.orienteering.specs.declared.CheckFail.{CheckFail}
use Rattle.orienteering.specs.declared.CheckFail.TheVariants.{TooManyLabels}
use Rattle.growth.specs.Reading.{IsKept, KeepsAccepted}
use Rattle.growth.specs.Growth.{Improves, IsRefused, children_of}
use Rattle.growth.proofs.Archives.{covers_box, dominated_again}

-- what is kept has the same children
pub children_kept : {P E F : Type 0} (s : Step P E) (t : Step P F) → IsKept s t → (IsRefused s → ⊥) → children_of s ≡ children_of t
children_kept (Refused e) t k go = absurd (go tt)
children_kept Ends t k go = sym (ap (λ t. children_of t) k)
children_kept (Child q) t k go = sym (ap (λ t. children_of t) k)
children_kept (Children q r) t k go = sym (ap (λ t. children_of t) k)

-- what is kept isn't refused
pub accepted_kept : {P E F : Type 0} (s : Step P E) (t : Step P F) → IsKept s t → (IsRefused s → ⊥) → IsRefused t → ⊥
accepted_kept (Refused e) t k go r = go tt
accepted_kept Ends t k go r = subst (λ t. IsRefused t) k r
accepted_kept (Child q) t k go r = subst (λ t. IsRefused t) k r
accepted_kept (Children q u) t k go r = subst (λ t. IsRefused t) k r

-- a region whose tight box a covered point weakly dominates is closed by that
pub closes_covered : {R : Type 0} (rules : RegionRules R) (points : List Listed) (p : Branch R) (v : Point) → IsCovered v points →
    ((b : Box2) → rules.tight p.region ≡ Some b → (b.p_hi ≤ v.profit) × (v.time ≤ b.t_lo)) →
    IsRefused (node_step rules points 0 p Dominated) → ⊥
closes_covered rules points p v held over =
    elim (rules.tight p.region) as (λ o. rules.tight p.region ≡ o →
    IsRefused (leaf_if rules points 0 p (elim o [ None ↦ true | Some b ↦ list_any (dominates_box b) points ]) NotDominated) → ⊥) [
      | None ↦ λ e r. r
      | Some b ↦ λ e r.
          let o = over b e in
          subst (λ t. IsRefused (leaf_if rules points 0 p t NotDominated)) (covers_box v b points held o.0 o.1) r
    ] refl

module _ {R : Type 0} (rules : RegionRules R) (points better : List Listed) (improves : Improves points better) (i j : ℕ)
    (p : Branch R) where
  abbrev Kept : Step (Branch R) CheckFail → Step (Branch R) CheckFail → Type 0
  Kept s t = IsKept s t

  leaf_kept : (a b : Bool) (cause : NodeCause) → (a ≡ true → b ≡ true) →
      Kept (leaf_if rules points i p a cause) (leaf_if rules better j p b cause)
  leaf_kept true b cause h = ap (λ t. leaf_if rules better j p t cause) (h refl)
  leaf_kept false b cause h = tt

  split_kept : (s : Split) → Kept (split_step rules points i p s) (split_step rules better j p s)
  split_kept s =
      elim (rules.split p.region s) as (λ o. Kept
      (elim o [ None ↦ refuse rules points i p NoProgress | Some parts ↦ Children (part_of p parts.0) (part_of p parts.1) ])
      (elim o [ None ↦ refuse rules better j p NoProgress | Some parts ↦ Children (part_of p parts.0) (part_of p parts.1) ])) [
        | None ↦ tt
        | Some parts ↦ refl
      ]

  abbrev below : Price → ℤ → Branch R
  below price b =
      record {
        region = p.region;
        cuts = p.cuts ++ record { alpha = price.alpha; beta = price.beta; bound = b } ∷ [];
        under_cut = true;
      }

  replay_kept : (price : Price) (critical : List ℕ) →
      Kept (replay_step rules points i p price critical) (replay_step rules better j p price critical)
  replay_kept price critical =
      elim (rules.replay p.region price critical) as (λ o. Kept
      (elim o [ too_many_labels ↦ Refused (TooManyLabels i) | bounds b ↦ Child (below price b) ])
      (elim o [ too_many_labels ↦ Refused (TooManyLabels j) | bounds b ↦ Child (below price b) ])) [
        | too_many_labels ↦ tt
        | bounds b ↦ refl
      ]

  cut_kept : (price : Price) (critical : List ℕ) →
      Kept (cut_step rules points i p price critical) (cut_step rules better j p price critical)
  cut_kept price critical =
      elim p.under_cut as (λ u. Kept
      (cond u (refuse rules points i p CutUnderCut) (elim (rules.price_refusal p.region price) [
        | Some why ↦ refuse rules points i p (Unfit why)
        | None ↦ cond (rules.is_critical_set p.region critical) (replay_step rules points i p price critical)
            (refuse rules points i p Critical)
      ]))
      (cond u (refuse rules better j p CutUnderCut) (elim (rules.price_refusal p.region price) [
        | Some why ↦ refuse rules better j p (Unfit why)
        | None ↦ cond (rules.is_critical_set p.region critical) (replay_step rules better j p price critical)
            (refuse rules better j p Critical)
      ]))) [
        | true ↦ tt
        | false ↦ elim (rules.price_refusal p.region price) as (λ o. Kept
            (elim o [
              | Some why ↦ refuse rules points i p (Unfit why)
              | None ↦ cond (rules.is_critical_set p.region critical) (replay_step rules points i p price critical)
                  (refuse rules points i p Critical)
            ])
            (elim o [
              | Some why ↦ refuse rules better j p (Unfit why)
              | None ↦ cond (rules.is_critical_set p.region critical) (replay_step rules better j p price critical)
                  (refuse rules better j p Critical)
            ])) [
              | Some why ↦ tt
              | None ↦ elim (rules.is_critical_set p.region critical) as (λ b. Kept
                  (cond b (replay_step rules points i p price critical) (refuse rules points i p Critical))
                  (cond b (replay_step rules better j p price critical) (refuse rules better j p Critical))) [
                    | true ↦ replay_kept price critical
                    | false ↦ tt
                  ]
            ]
      ]

  cutoff_kept : (k : ℕ) → Kept (cutoff_step rules points i p k) (cutoff_step rules better j p k)
  cutoff_kept k =
      elim (cut_at p.cuts k) as (λ o. Kept
      (elim o [
        | None ↦ refuse rules points i p NoSuchCut
        | Some c ↦ leaf_if rules points i p (passes_tight rules (is_above c) p.region) NotAbove
      ])
      (elim o [
        | None ↦ refuse rules better j p NoSuchCut
        | Some c ↦ leaf_if rules better j p (passes_tight rules (is_above c) p.region) NotAbove
      ])) [
        | None ↦ tt
        | Some c ↦ leaf_kept (passes_tight rules (is_above c) p.region) (passes_tight rules (is_above c) p.region) NotAbove (λ e. e)
      ]

  still_dominated : passes_tight rules (λ b. list_any (dominates_box b) points) p.region ≡ true →
      passes_tight rules (λ b. list_any (dominates_box b) better) p.region ≡ true
  still_dominated =
      elim (rules.tight p.region) as (λ o.
      (elim o [ None ↦ true | Some b ↦ list_any (dominates_box b) points ]) ≡ true →
      (elim o [ None ↦ true | Some b ↦ list_any (dominates_box b) better ]) ≡ true) [
        | None ↦ λ e. e
        | Some b ↦ λ e. dominated_again b points better improves e
      ]

  node_kept : (n : Node) → Kept (node_step rules points i p n) (node_step rules better j p n)
  node_kept (Profit v) = split_kept (ByProfit v)
  node_kept (Time v) = split_kept (ByTime v)
  node_kept (Count c) = split_kept (ByCount c)
  node_kept (Arc k l) = split_kept (ByArc k l)
  node_kept (Cut price critical) = cut_kept price critical
  node_kept Dominated =
      leaf_kept (passes_tight rules (λ b. list_any (dominates_box b) points) p.region)
      (passes_tight rules (λ b. list_any (dominates_box b) better) p.region) NotDominated still_dominated
  node_kept (Cutoff k) = cutoff_kept k
  node_kept (Stuck reason) =
      leaf_kept (rules.is_stuck p.region reason) (rules.is_stuck p.region reason) NotStuck (λ e. e)
  node_kept Left = refl

-- what was accepted stays accepted under a better list of points, whatever the nodes' numbers are
pub keeps_accepted : {R : Type 0} (rules : RegionRules R) (points better : List Listed) → Improves points better →
    KeepsAccepted (node_step rules points) (node_step rules better)
keeps_accepted rules points better improves i j p n = node_kept rules points better improves i j p n

-- the branches below an accepted node are proper, and together they are smaller
pub record AreSmaller {P : Type 0} (Good : P → Type 0) (size : P → ℕ) (p : P) (below : List P) : Type 0 where
  pub good : AllByRecursion Good below
  pub smaller : sum_by size below < size p

pub children_smaller : {P E : Type 0} (Good : P → Type 0) (size : P → ℕ) (p : P) (s : Step P E) → FitsStep Good size p s →
    (IsRefused s → ⊥) → AreSmaller Good size p (reverse (children_of s))
children_smaller Good size p (Refused e) f go = absurd (go tt)
children_smaller Good size p Ends f go = record { good = tt; smaller = omega (arith, f) }
children_smaller Good size p (Child q) f go =
    record { good = (f.0, tt); smaller = omega (arith, f.1, sum_by-cons size q []) }
children_smaller Good size p (Children q r) f go =
    record {
      good = (f.1, (f.0, tt));
      smaller = omega (arith, f.2, sum_by-cons size r (q ∷ []), sum_by-cons size q []);
    }

-- a cut that is replayed has one child
pub cut_is : {R : Type 0} (rules : RegionRules R) (points : List Listed) (p : Branch R) (price : Price) (critical : List ℕ) (b : ℤ) →
    p.under_cut ≡ false → rules.price_refusal p.region price ≡ None → rules.is_critical_set p.region critical ≡ true →
    rules.replay p.region price critical ≡ bounds b →
    node_step rules points 0 p (Cut price critical)
    ≡ Child (record {
      region = p.region;
      cuts = p.cuts ++ record { alpha = price.alpha; beta = price.beta; bound = b } ∷ [];
      under_cut = true;
    })
cut_is rules points p price critical b free fit set replayed =
    ap (λ (u : Bool). cond u (refuse rules points 0 p CutUnderCut) (elim (rules.price_refusal p.region price) [
      | Some why ↦ refuse rules points 0 p (Unfit why)
      | None ↦ cond (rules.is_critical_set p.region critical) (replay_step rules points 0 p price critical)
          (refuse rules points 0 p Critical)
    ])) free
    ∙ ap (λ (o : Option PriceRefusal). elim o [
      | Some why ↦ refuse rules points 0 p (Unfit why)
      | None ↦ cond (rules.is_critical_set p.region critical) (replay_step rules points 0 p price critical)
          (refuse rules points 0 p Critical)
    ]) fit
    ∙ ap (λ (u : Bool). cond u (replay_step rules points 0 p price critical) (refuse rules points 0 p Critical)) set
    ∙ ap (λ (o : Replay). elim o [
      | too_many_labels ↦ Refused (TooManyLabels 0)
      | bounds b ↦ Child (record {
        region = p.region;
        cuts = p.cuts ++ record { alpha = price.alpha; beta = price.beta; bound = b } ∷ [];
        under_cut = true;
      })
    ]) replayed

-- what an accepted cut is
pub record IsCut {R : Type 0} (rules : RegionRules R) (p : Branch R) (price : Price) (critical : List ℕ) : Type 0 where
  pub free : p.under_cut ≡ false
  pub fit : rules.price_refusal p.region price ≡ None
  pub set : rules.is_critical_set p.region critical ≡ true

pub accepted_cut : {R : Type 0} (rules : RegionRules R) (points : List Listed) (p : Branch R) (price : Price) (critical : List ℕ) →
    (IsRefused (node_step rules points 0 p (Cut price critical)) → ⊥) → IsCut rules p price critical
accepted_cut rules points p price critical =
    elim p.under_cut as (λ u. p.under_cut ≡ u → (IsRefused (cond u (refuse rules points 0 p CutUnderCut)
    (elim (rules.price_refusal p.region price) [
      | Some why ↦ refuse rules points 0 p (Unfit why)
      | None ↦ cond (rules.is_critical_set p.region critical) (replay_step rules points 0 p price critical)
          (refuse rules points 0 p Critical)
    ])) → ⊥) → IsCut rules p price critical) [
      | true ↦ λ e go. absurd (go tt)
      | false ↦ λ free. elim (rules.price_refusal p.region price) as (λ o. rules.price_refusal p.region price ≡ o →
          (IsRefused (elim o [
            | Some why ↦ refuse rules points 0 p (Unfit why)
            | None ↦ cond (rules.is_critical_set p.region critical) (replay_step rules points 0 p price critical)
                (refuse rules points 0 p Critical)
          ]) → ⊥) → IsCut rules p price critical) [
            | Some why ↦ λ e go. absurd (go tt)
            | None ↦ λ fit. elim (rules.is_critical_set p.region critical) as (λ b. rules.is_critical_set p.region critical ≡ b →
                (IsRefused (cond b (replay_step rules points 0 p price critical) (refuse rules points 0 p Critical)) → ⊥) →
                IsCut rules p price critical) [
                  | true ↦ λ set go. record { free = free; fit = fit; set = set }
                  | false ↦ λ e go. absurd (go tt)
                ] refl
          ] refl
    ] refl
