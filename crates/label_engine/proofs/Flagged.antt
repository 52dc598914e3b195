-- Walks that hold the places of critical calls in the critical set are the walks of the cut under other names.
use Rattle.std.proofs.Common.{◌≡◌, ℕ, ◌+◌, ◌-◌, ◌<◌, ◌≤◌, Bool, true, false, cond, List, length, map, get_or, Option, None, Some, refl, sym, ap, ◌∙◌, subst, arith, ℤ, ◌≤ℤ◌}
use Rattle.std.specs.List.{All}
use Rattle.std.specs.Option.{option_and_then, option_map, is_some}
use Rattle.std.specs.Prelude.{nat_eq}
use Rattle.std.proofs.lemmas.Bool.{and_parts, leb-true}
use Rattle.std.proofs.lemmas.List.{get_or-map, length-map}
use Rattle.std.proofs.lemmas.List.Elements.{All-map}
use Rattle.std.proofs.lemmas.List.Quantifiers.{position-Some}
use Rattle.label_core.specs.Resource.{Laws}
use Rattle.label_core.specs.Clock.{IsClock, IsClockStep}
use Rattle.label_core.specs.ClockLaws.{clock_laws}
use Rattle.label_core.specs.Flags.{IsFlags, IsFlag}
use Rattle.label_core.specs.FlagsLaws.{flags_laws}
use Rattle.label_core.specs.Worth.{IsWorth, IsGain}
use Rattle.label_core.specs.WorthLaws.{worth_laws}
use Rattle.label_core.specs.Pair.{FitsBoth, FitsBothSteps}
use Rattle.label_core.specs.PairLaws.{pair_laws}
use Rattle.label_engine.specs.Front.{GivesFitting}
use Rattle.label_engine.specs.Settled.{CoversFronts, IsFrontOf, HasMoreThan}
use Rattle.label_engine.specs.Cut.{CutValue, CutStep, Cut, IsCut, IsVisit, relaxed, cut_rules, cut_step, step_between, at_start, cut_moves, flag_of, marked, flagged_between, flagged_moves}
use Rattle.label_engine.specs.Greatest.{IsAtCall, value_of, IsBestAt, IsBest, IsWalkOf, AreVisits}
use Rattle.label_engine.specs.Renaming.{IsRenaming, renamed, carried, stepped, name_at}
use Rattle.label_engine.specs.declared.label.Label.{Label}
use Rattle.label_engine.specs.declared.replay.Closed.{Closed}
use Rattle.label_engine.specs.declared.visit.Visit.{Visit}
use Rattle.label_engine.proofs.Best.{all_at_calls, best_is_sigma, best_has_walk, too_many, few_enough}
use Rattle.label_engine.proofs.Covering.{through, mapped}
use Rattle.label_engine.proofs.CutLimits.{between_fits, start_fits}
use Rattle.label_engine.proofs.Names.{name_at_rises, position-name_at, extended-carried, leq-carried, carried_one_to_one}
use Rattle.label_engine.proofs.Renaming.{covers_renamed, more_renamed, more_named, front_renamed}
use Rattle.orienteering.specs.Instance.{calls, IsCall}
use Rattle.orienteering.specs.Sigma as seen

-- ---- the places of calls in a critical set

is_some-option_map : {A B : Type 0} (f : A → B) (o : Option A) → is_some (option_map f o) ≡ is_some o
is_some-option_map f None = refl
is_some-option_map f (Some x) = refl

is_some-cond : {A : Type 0} (b : Bool) (x : A) → is_some (cond b (Some x) None) ≡ b
is_some-cond true x = refl
is_some-cond false x = refl

-- a call has a place exactly where it is critical
pub is_some-flag_of : (c : Cut) (call : ℕ) → is_some (flag_of c.critical call) ≡ (relaxed c).critical call
is_some-flag_of c call =
    sym (is_some-option_map (name_at c.critical) (flag_of c.critical call)) ∙
    ap is_some (position-name_at c.region c.price c.critical call) ∙
    is_some-cond ((relaxed c).critical call) call

option_map-flagged : (g : ℕ → ℕ) (flag : Option ℕ) (b : Bool) (s : CutStep) → option_map g flag ≡ s.b.a → cond b None (Some s) ≡ option_map (stepped g) (option_map (marked flag) (cond b None (Some s)))
option_map-flagged g flag true s e = refl
option_map-flagged g flag false s e = ap (λ mark. Some (marked mark s)) (sym e)

begin-renamed : (g : ℕ → ℕ) → ((v : CutValue) (s : CutStep) → cut_rules.extended (carried g v) (stepped g s) ≡ option_map (carried g) (cut_rules.extended v s)) → (start : CutValue) → carried g start ≡ start → (o : Option CutStep) → option_and_then (cut_rules.extended start) (option_map (stepped g) o) ≡ option_map (carried g) (option_and_then (cut_rules.extended start) o)
begin-renamed g extended start same None = refl
begin-renamed g extended start same (Some s) = ap (λ v. cut_rules.extended v (stepped g s)) (sym same) ∙ extended start s

few_critical : (c : Cut) → IsCut c → length c.critical ≤ 64
few_critical c is =
    let outer = and_parts _ _ is.critical in
    leb-true _ _ (and_parts _ _ outer.1).1

-- the visit of a call stands at its number less one
pub visit_at : (c : Cut) (visits : List Visit) → AreVisits c visits → (call : ℕ) (visit : Visit) → IsCall c.problem call → visit ≡ get_or visits (call - 1) visit → IsVisit c call visit
visit_at c visits are call visit is_call at =
    let low : 1 ≤ call = is_call.0 in
    let high : call ≤ calls c.problem = is_call.1 in
    let here : call - 1 + 1 ≡ call = omega arith in
    let each : IsVisit c (call - 1 + 1) (get_or visits (call - 1) visit) = are.each (call - 1) visit (omega (arith, are.count)) in
    subst (λ n. IsVisit c n visit) here (subst (IsVisit c (call - 1 + 1)) (sym at) each)

module _ (c : Cut) (is : IsCut c) where
  abbrev names : ℕ → ℕ
  names = name_at c.critical

  rises : (i j : ℕ) → i < j → names i < names j
  rises = name_at_rises (calls c.problem) c.critical is.critical (omega (arith, is.instance.few_calls))

  between-renamed : (i j : ℕ) → step_between c.problem (relaxed c) i j ≡ option_map (stepped names) (flagged_between c i j)
  between-renamed i j =
      option_map-flagged names (flag_of c.critical j) _ (cut_step c.problem (relaxed c) i j)
      (position-name_at c.region c.price c.critical j)

  pub flags_rename : IsRenaming cut_rules (flagged_moves c) cut_rules (cut_moves c.problem (relaxed c)) (carried names) (stepped names)
  flags_rename = record {
    calls = refl;
    begin = λ j.
        ap (option_and_then (cut_rules.extended (at_start c.problem))) (between-renamed 0 j) ∙
        begin-renamed names (extended-carried names rises) (at_start c.problem) refl (flagged_between c 0 j);
    steps = between-renamed;
    extended = extended-carried names rises;
    leq = leq-carried names rises;
    one_to_one = carried_one_to_one names rises;
  }

  -- ---- numbers within their types

  abbrev Fits : CutValue → Type 0
  Fits = FitsBoth IsClock (FitsBoth IsFlags IsWorth)

  abbrev FitsStep : CutStep → Type 0
  FitsStep = FitsBothSteps IsClockStep (FitsBothSteps IsFlag IsGain)

  pub flagged_laws : Laws cut_rules Fits FitsStep
  flagged_laws = pair_laws clock_laws (pair_laws flags_laws worth_laws)

  pub flag_fits : (call : ℕ) → IsFlag (flag_of c.critical call)
  flag_fits call n e =
      let low = (position-Some (λ place. nat_eq place call) c.critical n 0 e).0 in
      omega (arith, few_critical c is)

  pub flagged_step_fits : (i j : ℕ) (step : CutStep) → j ≤ calls c.problem → flagged_between c i j ≡ Some step → FitsStep step
  flagged_step_fits i j step within e =
      let m = mapped (marked (flag_of c.critical j)) (step_between c.problem (relaxed c) i j) step e in
      let f = between_fits c.problem c.region c.price c.critical is.instance is.fit i j m.value within m.is in
      subst FitsStep m.gives (record { a = f.a; b = record { a = flag_fits j; b = f.b.b } })

  pub flagged_start_fits : Fits (at_start c.problem)
  flagged_start_fits =
      let f = start_fits c.problem c.region c.price c.critical is.instance is.fit in
      record { a = f.a; b = record { a = record { rising = tt; low = tt }; b = f.b.b } }

  pub flagged_fitting : GivesFitting Fits FitsStep (flagged_moves c)
  flagged_fitting = record {
    begin = λ j value is_call e.
        let t = through (cut_rules.extended (at_start c.problem)) (flagged_between c 0 j) value e in
        flagged_laws.fits (at_start c.problem) t.value value flagged_start_fits (flagged_step_fits 0 j t.value is_call.high t.is) t.gives;
    step = λ i j step from to e. flagged_step_fits i j step to.high e;
  }

  -- ---- too many states

  pub too_many_flagged : (limit : ℕ) → HasMoreThan cut_rules (flagged_moves c) limit (calls c.problem) → limit < length (seen.undominated c.problem (relaxed c))
  too_many_flagged limit h =
      too_many c is limit
      (more_renamed cut_rules (flagged_moves c) cut_rules (cut_moves c.problem (relaxed c)) (carried names) (stepped names) flags_rename limit (calls c.problem) h)

  pub few_flagged : (limit : ℕ) → (HasMoreThan cut_rules (flagged_moves c) limit (calls c.problem) → ⊥) → length (seen.undominated c.problem (relaxed c)) ≤ limit
  few_flagged limit none =
      few_enough c is limit
      (λ h. none (more_named cut_rules (flagged_moves c) cut_rules (cut_moves c.problem (relaxed c)) (carried names) (stepped names) flags_rename limit (calls c.problem) h))

  -- ---- the best of the settled labels

  module _ (labels : List (Label CutValue)) (cover : CoversFronts cut_rules (flagged_moves c) (calls c.problem) labels) where
    abbrev named : List (Label CutValue)
    named = map (renamed (carried names)) labels

    named_covers : CoversFronts cut_rules (cut_moves c.problem (relaxed c)) (calls c.problem) named
    named_covers = covers_renamed cut_rules (flagged_moves c) cut_rules (cut_moves c.problem (relaxed c)) (carried names) (stepped names) flags_rename (calls c.problem) labels cover

    pub flagged_at_calls : All (IsAtCall c) labels
    flagged_at_calls k d within =
        let long : k < length named = omega (arith, length-map labels (renamed (carried names))) in
        let named_label = renamed (carried names) (get_or labels k d) in
        let at : IsAtCall c named_label =
        subst (IsAtCall c) (get_or-map (renamed (carried names)) labels k d (renamed (carried names) d) within)
        (all_at_calls c is named named_covers k (renamed (carried names) d) long) in
        record { call = at.call; sum = at.sum }

    best_at_named : (b : Closed) → IsBestAt c labels b → IsBestAt c named b
    best_at_named b h = record {
      within = omega (arith, h.within, length-map labels (renamed (carried names)));
      closed = λ d.
          ap (value_of c) (get_or-map (renamed (carried names)) labels b.place d d h.within) ∙ h.closed d;
      greatest = All-map (λ label. (w : ℤ) → value_of c label ≡ Some w → w ≤ℤ b.value) (renamed (carried names)) labels h.greatest;
    }

    best_named : (best : Option Closed) → IsBest c labels best → IsBest c named best
    best_named None h = All-map (λ label. value_of c label ≡ None) (renamed (carried names)) labels h
    best_named (Some b) h = best_at_named b h

    pub flagged_best_is_sigma : (best : Option Closed) → IsBest c labels best → option_map (λ (b : Closed). b.value) best ≡ seen.sigma c.problem (relaxed c)
    flagged_best_is_sigma best h = best_is_sigma c is named named_covers best (best_named best h)

    pub flagged_best_has_walk : (b : Closed) → IsBestAt c labels b → (front : List ℕ) → IsFrontOf cut_rules (flagged_moves c) labels b.place front → IsWalkOf c.problem (relaxed c) b.value front
    flagged_best_has_walk b h front f =
        best_has_walk c is named named_covers b (best_at_named b h) front
        (front_renamed cut_rules (flagged_moves c) cut_rules (cut_moves c.problem (relaxed c)) (carried names) (stepped names) flags_rename labels b.place front f)
