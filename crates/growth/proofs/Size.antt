-- What each node owes to a bound on the nodes below its branch, by the weight of its region.
use Rattle.std.proofs.Common.{◌≡◌, ℕ, ◌+◌, ◌-◌, ◌*◌, ◌≤◌, Bool, true, false, cond, List, [], ◌∷◌, ◌++◌, refl, arith}
use Rattle.std.specs.declared.option.Option.TheVariants.{None, Some}
use Rattle.orienteering.specs.declared.Step.{Step}
use Rattle.orienteering.specs.declared.Step.TheVariants.{Refused, Child, Children}
use Rattle.orienteering.specs.declared.Listed.{Listed}
use Rattle.orienteering.proofs.TreeSize.{FitsStep}
use Rattle.orienteering.specs.declared.Price.{Price}
use Rattle.std.specs.List.{list_any}
use Rattle.orienteering.specs.Replay.{too_many_labels, bounds}
use Rattle.orienteering.specs.RegionRules.{RegionRules}
use Rattle.orienteering.specs.Decision.{Branch, part_of, cut_at, is_above, dominates_box, passes_tight, refuse, leaf_if, split_step, replay_step, cut_step, cutoff_step, node_step}
use Rattle.orienteering.specs.Size.{IsWeight}
use Rattle.orienteering.specs.declared.Split.{Split}
use Rattle.orienteering.specs.declared.Split.TheVariants.{Profit as ByProfit, Time as ByTime, Count as ByCount, Arc as ByArc}
use Rattle.orienteering.specs.declared.Node.{Node}
use Rattle.orienteering.specs.declared.Node.TheVariants.{Profit, Time, Count, Arc, Cut, Dominated, Cutoff, Stuck, Left}
use Rattle.orienteering.specs.declared.NodeCause.{NodeCause}
use Rattle.orienteering.specs.declared.NodeCause.TheVariants.{NoProgress, CutUnderCut, Price as Unfit, Critical, NoSuchCut, NotAbove, NotDominated, NotStuck}
use Rattle.orienteering.specs.declared.CheckFail.{CheckFail}
use Rattle.orienteering.specs.declared.CheckFail.TheVariants.{TooManyLabels}

module _ {R : Type 0} (rules : RegionRules R) (Proper : R → Type 0) (weight : R → ℕ) (points : List Listed)
    (laws : IsWeight rules Proper weight) where
  abbrev pub IsProperAt : Branch R → Type 0
  IsProperAt p = Proper p.region

  -- one node less where no cut may stand
  abbrev pub size : Branch R → ℕ
  size p = 4 * weight p.region - cond p.under_cut 3 2

  abbrev pub Fits : Branch R → Step (Branch R) CheckFail → Type 0
  Fits p s = FitsStep IsProperAt size p s

  some_size : (p : Branch R) → Proper p.region → 1 ≤ size p
  some_size p g =
      elim p.under_cut as (λ b. 1 ≤ 4 * weight p.region - cond b 3 2) [
        | true ↦ omega (arith, laws.some p.region g)
        | false ↦ omega (arith, laws.some p.region g)
      ]

  leaf_fits : (i : ℕ) (p : Branch R) (b : Bool) (cause : NodeCause) → Proper p.region → Fits p (leaf_if rules points i p b cause)
  leaf_fits i p true cause g = some_size p g
  leaf_fits i p false cause g = tt

  split_size : (w a b : ℕ) (under : Bool) → 1 ≤ a → 1 ≤ b → a + b ≤ w → 1 + (4 * a - 2) + (4 * b - 2) ≤ 4 * w - cond under 3 2
  split_size w a b true h k l = omega arith
  split_size w a b false h k l = omega arith

  split_fits : (i : ℕ) (p : Branch R) (s : Split) → Proper p.region → Fits p (split_step rules points i p s)
  split_fits i p s g =
      elim (rules.split p.region s) as (λ o. rules.split p.region s ≡ o → Fits p (elim o [
        | None ↦ refuse rules points i p NoProgress
        | Some parts ↦ Children (part_of p parts.0) (part_of p parts.1)
      ])) [
        | None ↦ λ e. tt
        | Some parts ↦ λ e.
            let proper = laws.split_proper p.region s parts.0 parts.1 g e in (
              proper.0,
              proper.1,
              split_size (weight p.region) (weight parts.0) (weight parts.1) p.under_cut
                  (laws.some parts.0 proper.0) (laws.some parts.1 proper.1) (laws.split_less p.region s parts.0 parts.1 g e),
            )
      ] refl

  replay_fits : (i : ℕ) (p : Branch R) (price : Price) (critical : List ℕ) → Proper p.region → p.under_cut ≡ false →
      Fits p (replay_step rules points i p price critical)
  replay_fits i p price critical g free =
      elim (rules.replay p.region price critical) as (λ o. Fits p (elim o [
        | too_many_labels ↦ Refused (TooManyLabels i)
        | bounds b ↦ Child (record {
          region = p.region;
          cuts = p.cuts ++ record { alpha = price.alpha; beta = price.beta; bound = b } ∷ [];
          under_cut = true;
        })
      ])) [
        | too_many_labels ↦ tt
        | bounds b ↦ (g, room p.under_cut free)
      ]
    where
      room : (b : Bool) → b ≡ false → 1 + (4 * weight p.region - 3) ≤ 4 * weight p.region - cond b 3 2
      room true e = absurd (cc)
      room false e = omega (arith, laws.some p.region g)

  cut_fits : (i : ℕ) (p : Branch R) (price : Price) (critical : List ℕ) → Proper p.region →
      Fits p (cut_step rules points i p price critical)
  cut_fits i p price critical g =
      elim p.under_cut as (λ b. p.under_cut ≡ b → Fits p (cond b (refuse rules points i p CutUnderCut)
      (elim (rules.price_refusal p.region price) [
        | Some why ↦ refuse rules points i p (Unfit why)
        | None ↦ cond (rules.is_critical_set p.region critical) (replay_step rules points i p price critical)
            (refuse rules points i p Critical)
      ]))) [
        | true ↦ λ e. tt
        | false ↦ λ free. elim (rules.price_refusal p.region price) as (λ o. Fits p (elim o [
          | Some why ↦ refuse rules points i p (Unfit why)
          | None ↦ cond (rules.is_critical_set p.region critical) (replay_step rules points i p price critical)
              (refuse rules points i p Critical)
        ])) [
          | Some why ↦ tt
          | None ↦ elim (rules.is_critical_set p.region critical) as (λ b.
              Fits p (cond b (replay_step rules points i p price critical) (refuse rules points i p Critical))) [
                | true ↦ replay_fits i p price critical g free
                | false ↦ tt
              ]
        ]
      ] refl

  cutoff_fits : (i : ℕ) (p : Branch R) (k : ℕ) → Proper p.region → Fits p (cutoff_step rules points i p k)
  cutoff_fits i p k g =
      elim (cut_at p.cuts k) as (λ o. Fits p (elim o [
        | None ↦ refuse rules points i p NoSuchCut
        | Some c ↦ leaf_if rules points i p (passes_tight rules (is_above c) p.region) NotAbove
      ])) [
        | None ↦ tt
        | Some c ↦ leaf_fits i p (passes_tight rules (is_above c) p.region) NotAbove g
      ]

  pub step_fits : (i : ℕ) (p : Branch R) (n : Node) → Proper p.region → Fits p (node_step rules points i p n)
  step_fits i p (Profit w) g = split_fits i p (ByProfit w) g
  step_fits i p (Time w) g = split_fits i p (ByTime w) g
  step_fits i p (Count c) g = split_fits i p (ByCount c) g
  step_fits i p (Arc j k) g = split_fits i p (ByArc j k) g
  step_fits i p (Cut price critical) g = cut_fits i p price critical g
  step_fits i p Dominated g =
      leaf_fits i p (passes_tight rules (λ b. list_any (dominates_box b) points) p.region) NotDominated g
  step_fits i p (Cutoff k) g = cutoff_fits i p k g
  step_fits i p (Stuck reason) g = leaf_fits i p (rules.is_stuck p.region reason) NotStuck g
  step_fits i p Left g = some_size p g
