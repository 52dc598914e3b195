-- Where small sums stop no sum of a walk, the fronts with small sums are those of the cut.
use Rattle.std.proofs.Common.{◌≡◌, ℕ, ◌+◌, ◌*◌, ◌≤◌, ⊎_elim, true, List, [], ◌∷◌, length, get_or, Option, None, Some, refl, sym, ap, ◌∙◌, subst, arith, lit≤, ℤ, pos, ◌+ℤ◌}
use Rattle.std.specs.Prelude.{unsigned_abs, FitsSigned}
use Rattle.std.specs.Int.{w64}
use Rattle.std.specs.List.{All, AllByRecursion, Contains, slice_get}
use Rattle.std.specs.Option.{option_and_then, option_map, MatchOption}
use Rattle.std.proofs.Math.Nat.{mul-le-mul_right}
use Rattle.std.proofs.lemmas.Int.{ints}
use Rattle.std.proofs.lemmas.List.Elements.{All-weaker}
use Rattle.std.proofs.lemmas.Option.{none-some, same_Some, get_or_from_slice_get, slice_get_within}
use Rattle.label_core.specs.Resource.{Laws}
use Rattle.label_core.specs.Clock.{clock_rules, IsClock, IsClockStep}
use Rattle.label_core.specs.ClockLaws.{clock_laws}
use Rattle.label_core.specs.Critical.{critical_rules}
use Rattle.label_core.specs.Flags.{IsFlags, IsFlag}
use Rattle.label_core.specs.FlagsLaws.{flags_laws}
use Rattle.label_core.specs.Worth.{most}
use Rattle.label_core.specs.Pair.{both, FitsBoth, FitsBothSteps}
use Rattle.label_core.specs.PairLaws.{pair_laws, both_parts}
use Rattle.label_engine.specs.Cut.{CutValue, CutStep, Cut, IsCut, relaxed, cut_rules, cut_step, step_between, at_start, flag_of, marked, flagged_between, flagged_moves}
use Rattle.label_engine.specs.Front.{State, IsCallOf, GivesFitting, begun, moved, state_after, front_state, IsFront, IsFrontState}
use Rattle.label_engine.specs.Settled.{CoversFronts, state_of, IsExtended, HasParent, IsFrontOf}
use Rattle.label_engine.specs.SmallSums.{small_clamped, small_worth_rules, IsSmallWorth, IsSmallGain, most_small, small_rules, small_moves, HasSmallSums}
use Rattle.label_engine.specs.SmallSumsLaws.{small_worth_laws}
use Rattle.label_engine.specs.declared.label.Label.{Label}
use Rattle.label_engine.proofs.Buckets.{found_cases}
use Rattle.label_engine.proofs.Covering.{through, mapped, move_parts}
use Rattle.label_engine.proofs.CutLimits.{small_step, signed_within_64}
use Rattle.label_engine.proofs.CutSteps.{not_none, clamped_within}
use Rattle.label_engine.proofs.Fronts.{bounded}
use Rattle.label_engine.proofs.Flagged.{flagged_step_fits, flagged_start_fits}
use Rattle.label_engine.proofs.Renaming.{MatchOption-weaker}
use Rattle.orienteering.specs.Instance.{calls, IsCall}
use Rattle.orienteering.specs.Walk.{step_value}
use Rattle.orienteering.proofs.Lists.{AllByRecursion-weaker}

-- ---- sums that don't stop

small_clamped_within : (z : ℤ) → unsigned_abs z ≤ most_small → small_clamped z ≡ z
small_clamped_within z h = grind (arith, ints)

sum_within : (a b : ℤ) (x y : ℕ) → unsigned_abs a ≤ x → unsigned_abs b ≤ y → unsigned_abs (a +ℤ b) ≤ x + y
sum_within a b x y p q = grind (arith, ints)

-- a step's value is that of the cut
flagged_value : (c : Cut) (i j : ℕ) (step : CutStep) → flagged_between c i j ≡ Some step → step.b.b.by ≡ step_value c.problem (relaxed c) i j
flagged_value c i j step e =
    let m = mapped (marked (flag_of c.critical j)) (step_between c.problem (relaxed c) i j) step e in
    let free = not_none _ (cut_step c.problem (relaxed c) i j) m.value m.is in
    sym (ap (λ s. s.b.b.by) m.gives) ∙ sym (ap (λ s. s.b.b.by) free.1)

-- and fits into 8 bytes
pub flagged_value_fits : (c : Cut) → IsCut c → (i j : ℕ) (step : CutStep) → flagged_between c i j ≡ Some step → FitsSigned w64 step.b.b.by
flagged_value_fits c is i j step e =
    subst (FitsSigned w64) (sym (flagged_value c i j step e))
    (signed_within_64 (step_value c.problem (relaxed c) i j) (small_step c.problem c.region c.price c.critical is.instance is.fit i j))

extended_alike : (v : CutValue) (step : CutStep) → unsigned_abs (v.b.b.sum +ℤ step.b.b.by) ≤ most_small → small_rules.extended v step ≡ cut_rules.extended v step
extended_alike v step h =
    let z = v.b.b.sum +ℤ step.b.b.by in
    ap (λ sum. both (clock_rules.extended v.a step.a) (both (critical_rules.extended v.b.a step.b.a) (Some (record { sum = sum }))))
    (small_clamped_within z h ∙ sym (clamped_within z (omega (arith, h))))

module _ (c : Cut) (is : IsCut c) where
  abbrev SmallFits : CutValue → Type 0
  SmallFits = FitsBoth IsClock (FitsBoth IsFlags IsSmallWorth)

  abbrev SmallFitsStep : CutStep → Type 0
  SmallFitsStep = FitsBothSteps IsClockStep (FitsBothSteps IsFlag IsSmallGain)

  small_laws : Laws small_rules SmallFits SmallFitsStep
  small_laws = pair_laws clock_laws (pair_laws flags_laws small_worth_laws)

  step_fits : (i j : ℕ) (step : CutStep) → j ≤ calls c.problem → flagged_between c i j ≡ Some step → SmallFitsStep step
  step_fits i j step within e =
      let f = flagged_step_fits c is i j step within e in
      record { a = f.a; b = record { a = f.b.a; b = record { by = flagged_value_fits c is i j step e } } }

  start_fits : SmallFits (at_start c.problem)
  start_fits =
      let f = flagged_start_fits c is in
      record { a = f.a; b = record { a = f.b.a; b = record { sum = signed_within_64 (pos 0) (lit≤ tt) } } }

  pub small_fitting : GivesFitting SmallFits SmallFitsStep (small_moves c)
  small_fitting = record {
    begin = λ j value is_call e.
        let t = through (small_rules.extended (at_start c.problem)) (flagged_between c 0 j) value e in
        small_laws.fits (at_start c.problem) t.value value start_fits (step_fits 0 j t.value is_call.high t.is) t.gives;
    step = λ i j step from to e. step_fits i j step to.high e;
  }

module _ (c : Cut) (small : HasSmallSums c) where
  -- a state whose sum is that of few steps
  record IsNear (s : State CutValue) : Type 0 where
    place : s.call ≤ calls c.problem
    sum : unsigned_abs s.value.b.b.sum ≤ s.hops * small.step

  step_within : (s : State CutValue) (j : ℕ) → IsNear s → s.hops + 1 ≤ calls c.problem → IsCall c.problem j → (step : CutStep) → flagged_between c s.call j ≡ Some step → unsigned_abs (s.value.b.b.sum +ℤ step.b.b.by) ≤ (s.hops + 1) * small.step
  step_within s j near few is_call step e =
      let value = subst (λ z. unsigned_abs z ≤ small.step) (sym (flagged_value c s.call j step e)) (small.each s.call j near.place is_call) in
      omega (arith, sum_within s.value.b.b.sum step.b.b.by (s.hops * small.step) small.step near.sum value)

  steps_within : (hops : ℕ) → hops ≤ calls c.problem → hops * small.step ≤ most_small
  steps_within hops few = omega (arith, mul-le-mul_right small.step few, small.sum)

  moved_alike : (s : State CutValue) (j : ℕ) → IsNear s → s.hops + 1 ≤ calls c.problem → IsCall c.problem j → moved small_rules (small_moves c) s j ≡ moved cut_rules (flagged_moves c) s j
  moved_alike s j near few is_call =
      let on : CutValue → State CutValue = λ value. record { hops = s.hops + 1; call = j; value = value } in
      let o = flagged_between c s.call j in
      ⊎_elim
      (λ none. ap (λ o. option_map on (option_and_then (small_rules.extended s.value) o)) none ∙ sym (ap (λ o. option_map on (option_and_then (cut_rules.extended s.value) o)) none))
      (λ some.
      let within = step_within s j near few is_call some.0 some.1 in
      ap (λ o. option_map on (option_and_then (small_rules.extended s.value) o)) some.1 ∙
      ap (option_map on) (extended_alike s.value some.0 (omega (arith, within, steps_within (s.hops + 1) few))) ∙
      sym (ap (λ o. option_map on (option_and_then (cut_rules.extended s.value) o)) some.1))
      (found_cases o)

  moved_near : (s : State CutValue) (j : ℕ) (t : State CutValue) → IsNear s → s.hops + 1 ≤ calls c.problem → IsCall c.problem j → moved small_rules (small_moves c) s j ≡ Some t → IsNear t × (t.hops ≡ s.hops + 1)
  moved_near s j t near few is_call e =
      let m = move_parts small_rules (small_moves c) s j t e in
      let outer = both_parts _ _ t.value m.extended in
      let inner = both_parts _ _ t.value.b outer.second in
      let within = step_within s j near few is_call m.step m.made in
      let sum : t.value.b.b.sum ≡ s.value.b.b.sum +ℤ m.step.b.b.by =
      sym (ap (λ w. w.sum) (same_Some _ _ inner.second)) ∙ small_clamped_within (s.value.b.b.sum +ℤ m.step.b.b.by) (omega (arith, within, steps_within (s.hops + 1) few)) in (
        record {
          place = omega (arith, m.call, is_call.1);
          sum = subst (λ h. unsigned_abs t.value.b.b.sum ≤ h * small.step) (sym m.hops) (subst (λ z. unsigned_abs z ≤ (s.hops + 1) * small.step) (sym sum) within);
        },
        m.hops,
      )

  after_alike : (s : State CutValue) (js : List ℕ) → IsNear s → s.hops + length js ≤ calls c.problem → AllByRecursion (IsCall c.problem) js → state_after small_rules (small_moves c) s js ≡ state_after cut_rules (flagged_moves c) s js
  after_alike s [] near few all = refl
  after_alike s (j ∷ js) near few all =
      let alike = moved_alike s j near (omega arith) all.0 in
      ⊎_elim
      (λ none. ap (option_and_then (λ t. state_after small_rules (small_moves c) t js)) none ∙ sym (ap (option_and_then (λ t. state_after cut_rules (flagged_moves c) t js)) (sym alike ∙ none)))
      (λ some.
      let next = moved_near s j some.0 near (omega arith) all.0 some.1 in
      ap (option_and_then (λ t. state_after small_rules (small_moves c) t js)) some.1 ∙
      after_alike some.0 js next.0 (omega (arith, next.1)) all.1 ∙
      sym (ap (option_and_then (λ t. state_after cut_rules (flagged_moves c) t js)) (sym alike ∙ some.1)))
      (found_cases (moved small_rules (small_moves c) s j))

  after_near : (s : State CutValue) (js : List ℕ) (t : State CutValue) → IsNear s → s.hops + length js ≤ calls c.problem → AllByRecursion (IsCall c.problem) js → state_after small_rules (small_moves c) s js ≡ Some t → IsNear t × (t.hops ≡ s.hops + length js)
  after_near s [] t near few all e = (subst IsNear (same_Some s t e) near, omega (arith, ap (λ u. u.hops) (same_Some s t e)))
  after_near s (j ∷ js) t near few all e =
      let p = through (λ u. state_after small_rules (small_moves c) u js) (moved small_rules (small_moves c) s j) t e in
      let next = moved_near s j p.value near (omega arith) all.0 p.is in
      let rest = after_near p.value js t next.0 (omega (arith, next.1)) all.1 p.gives in
      (rest.0, omega (arith, next.1, rest.1))

  -- before the first call
  abbrev origin : State CutValue
  origin = record { hops = 0; call = 0; value = at_start c.problem }

  origin_near : IsNear origin
  origin_near = record { place = omega arith; sum = omega arith }

  calls_of_small : (js : List ℕ) → AllByRecursion (IsCallOf (small_moves c)) js → AllByRecursion (IsCall c.problem) js
  calls_of_small js = AllByRecursion-weaker (IsCallOf (small_moves c)) (IsCall c.problem) (λ j h. (h.low, h.high)) js

  front_alike : (front : List ℕ) → AllByRecursion (IsCall c.problem) front → length front ≤ calls c.problem → front_state small_rules (small_moves c) front ≡ front_state cut_rules (flagged_moves c) front
  front_alike [] all few = refl
  front_alike (j ∷ js) all few = after_alike origin (j ∷ js) origin_near (omega arith) all

  front_near : (front : List ℕ) (s : State CutValue) → AllByRecursion (IsCall c.problem) front → length front ≤ calls c.problem → front_state small_rules (small_moves c) front ≡ Some s → IsNear s × (s.hops ≡ length front)
  front_near [] s all few e = absurd (none-some s e)
  front_near (j ∷ js) s all few e = let r = after_near origin (j ∷ js) s origin_near (omega arith) all e in (r.0, omega (arith, r.1))

  to_flagged : (hops : ℕ) (front : List ℕ) (s : State CutValue) → hops ≤ calls c.problem → IsFront small_rules (small_moves c) hops front s → IsFront cut_rules (flagged_moves c) hops front s
  to_flagged hops front s few f = record {
    short = f.short;
    calls = AllByRecursion-weaker (IsCallOf (small_moves c)) (IsCallOf (flagged_moves c)) (λ j h. record { low = h.low; high = h.high }) front f.calls;
    state = sym (front_alike front (calls_of_small front f.calls) (omega (arith, f.short))) ∙ f.state;
  }

  from_flagged : (hops : ℕ) (front : List ℕ) (s : State CutValue) → hops ≤ calls c.problem → IsFront cut_rules (flagged_moves c) hops front s → IsFront small_rules (small_moves c) hops front s
  from_flagged hops front s few f =
      let all = AllByRecursion-weaker (IsCallOf (flagged_moves c)) (IsCallOf (small_moves c)) (λ j h. record { low = h.low; high = h.high }) front f.calls in
      record {
        short = f.short;
        calls = all;
        state = front_alike front (calls_of_small front all) (omega (arith, f.short)) ∙ f.state;
      }

-- ---- labels with small sums

module _ (c : Cut) (is : IsCut c) (small : HasSmallSums c) (labels : List (Label CutValue)) (cover : CoversFronts small_rules (small_moves c) (calls c.problem) labels) where
  record IsKnown (label : Label CutValue) : Type 0 where
    near : IsNear c small (state_of label)
    few : label.hops ≤ calls c.problem
    is_call : IsCall c.problem label.call

  known : All IsKnown labels
  known k d within =
      let label = get_or labels k d in
      let f = cover.reached k d within in
      let near = front_near c small f.0 (state_of label) (calls_of_small c small f.0 f.1.calls) f.1.short f.1.state in
      let b = bounded small_rules (small_moves c) (small_laws c is) (small_fitting c is) (calls c.problem) (state_of label) f in
      record { near = near.0; few = omega (arith, near.1, f.1.short); is_call = (b.is_call.low, b.is_call.high) }

  known_at : (place : ℕ) (label : Label CutValue) → slice_get labels place ≡ Some label → IsKnown label
  known_at place label e =
      subst IsKnown (get_or_from_slice_get labels place label label e) (known place label (slice_get_within labels place label e))

  parent_flagged : (label : Label CutValue) → IsKnown label → HasParent small_rules (small_moves c) labels label → HasParent cut_rules (flagged_moves c) labels label
  parent_flagged label k h =
      MatchOption-weaker label.parent
      (begun small_rules (small_moves c) label.call ≡ Some (state_of label)) (begun cut_rules (flagged_moves c) label.call ≡ Some (state_of label))
      (IsExtended small_rules (small_moves c) labels label) (IsExtended cut_rules (flagged_moves c) labels label)
      (λ e. sym (moved_alike c small (origin c small) label.call (origin_near c small) (omega (arith, k.is_call.0, k.is_call.1)) k.is_call) ∙ e)
      (λ place e.
      let from = known_at place e.from e.stands in
      let hops = (move_parts small_rules (small_moves c) (state_of e.from) label.call (state_of label) e.extends).hops in
      record {
        from = e.from;
        stands = e.stands;
        extends = sym (moved_alike c small (state_of e.from) label.call from.near (omega (arith, hops, k.few)) k.is_call) ∙ e.extends;
      })
      h

  pub covers_flagged : CoversFronts cut_rules (flagged_moves c) (calls c.problem) labels
  covers_flagged = record {
    reached = All-weaker (λ l. IsFrontState small_rules (small_moves c) (calls c.problem) (state_of l)) (λ l. IsFrontState cut_rules (flagged_moves c) (calls c.problem) (state_of l))
        (λ l f. (f.0, to_flagged c small (calls c.problem) f.0 (state_of l) (omega arith) f.1)) labels cover.reached;
    covering = λ s f.
        let k = cover.covering s (f.0, from_flagged c small (calls c.problem) f.0 s (omega arith) f.1) in
        record { kept = k.kept; held = k.held; covers = k.covers };
    parents = λ k d within. parent_flagged (get_or labels k d) (known k d within) (cover.parents k d within);
  }

  pub front_flagged : (place : ℕ) (front : List ℕ) → IsFrontOf small_rules (small_moves c) labels place front → IsFrontOf cut_rules (flagged_moves c) labels place front
  front_flagged place front f = record {
    label = f.label;
    stands = f.stands;
    front_is = to_flagged c small f.label.hops front (state_of f.label) (known_at place f.label f.stands).few f.front_is;
  }
