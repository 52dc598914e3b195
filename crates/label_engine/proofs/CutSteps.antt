-- What a move of a relaxation says of the clock, the critical calls and the value.
use Rattle.std.proofs.Common.{◌≡◌, ◌≢◌, ℕ, ◌+◌, ◌<◌, ◌≤◌, ⊎_elim, max, min, Bool, true, false, ◌||◌, eqb, leb, cond, List, None, Some, refl, sym, ap, ◌∙◌, arith, ℤ, ◌+ℤ◌}
use Rattle.std.specs.Prelude.{unsigned_abs}
use Rattle.std.specs.Option.{option_map}
use Rattle.std.proofs.lemmas.Bool.{or_parts, or_from, eqb-false, ne_eqb, lt-leb, cond-false, cases_lt}
use Rattle.std.proofs.lemmas.Int.{ints}
use Rattle.std.proofs.lemmas.Option.{none-some, same_Some}
use Rattle.label_core.specs.Clock.{clock_after, latest}
use Rattle.label_core.specs.Critical.{critical_after}
use Rattle.label_core.specs.Worth.{clamped, most}
use Rattle.label_core.specs.PairLaws.{both_parts, both_some}
use Rattle.label_engine.specs.Front.{State, moved}
use Rattle.label_engine.specs.Cut.{CutValue, cut_rules, cut_step, mark_of, step_between, cut_moves}
use Rattle.label_engine.proofs.Covering.{mapped, move_parts, move_from}
use Rattle.orienteering.specs.Instance.{Problem, site, travel, next_clock}
use Rattle.orienteering.specs.Walk.{Relaxation, step_value}

pub not_none : {A : Type 0} (b : Bool) (x y : A) → cond b None (Some x) ≡ Some y → (b ≡ false) × (x ≡ y)
not_none true x y e = absurd (none-some y e)
not_none false x y e = (refl, same_Some x y e)

option_map-cond : {A B : Type 0} (f : A → B) (b : Bool) (x : A) → cond b (Some (f x)) None ≡ option_map f (cond b (Some x) None)
option_map-cond f true x = refl
option_map-cond f false x = refl

-- a clock that stops at its type's greatest number is late where the true clock is
pub clock-next : (p : Problem) (c i j : ℕ) → (site p j).closing < latest → clock_after (record { at = c }) (record { travel = (site p i).service + travel p i j; opening = (site p j).opening; closing = (site p j).closing }) ≡ option_map (λ at. record { at = at }) (next_clock p c i j)
clock-next p c i j below =
    let far = (site p i).service + travel p i j in
    let opening = (site p j).opening in
    let closing = (site p j).closing in
    let capped : ℕ = max (min (c + far) latest) opening in
    let true_arrival : ℕ = max (c + (site p i).service + travel p i j) opening in
    ⊎_elim
    (λ over.
    let late : leb capped closing ≡ false = lt-leb capped closing (omega arith) in
    let late_too : leb true_arrival closing ≡ false = lt-leb true_arrival closing (omega arith) in
    cond-false _ (Some (record { at = capped })) None late ∙
    sym (ap (option_map (λ at. record { at = at })) (cond-false _ (Some true_arrival) None late_too)))
    (λ within.
    let same : capped ≡ true_arrival = omega arith in
    ap (λ at. cond (leb at closing) (Some (record { at = at })) None) same ∙
    option_map-cond (λ at. record { at = at }) (leb true_arrival closing) true_arrival)
    (cases_lt latest (c + far))

pub clamped_within : (z : ℤ) → unsigned_abs z ≤ most → clamped z ≡ z
clamped_within z h = grind (arith, ints)

-- what a move says
pub record StepFacts (p : Problem) (r : Relaxation) (s : State CutValue) (j : ℕ) (t : State CutValue) : Type 0 where
  pub differ : s.call ≢ j
  pub open_arc : r.shut s.call j ≡ false
  pub clock : next_clock p s.value.a.at s.call j ≡ Some t.value.a.at
  pub held : critical_after s.value.b.a (mark_of r j) ≡ Some t.value.b.a
  pub sum : t.value.b.b.sum ≡ s.value.b.b.sum +ℤ step_value p r s.call j
  pub call : t.call ≡ j
  pub hops : t.hops ≡ s.hops + 1

module _ (p : Problem) (r : Relaxation) where
  pub step_facts : (s : State CutValue) (j : ℕ) (t : State CutValue) → (site p j).closing < latest → unsigned_abs (s.value.b.b.sum +ℤ step_value p r s.call j) ≤ most → moved cut_rules (cut_moves p r) s j ≡ Some t → StepFacts p r s j t
  step_facts s j t below room e =
      let m = move_parts cut_rules (cut_moves p r) s j t e in
      let free = not_none (eqb s.call j || r.shut s.call j) (cut_step p r s.call j) m.step m.made in
      let arc = or_parts _ _ free.0 in
      let extended : cut_rules.extended s.value (cut_step p r s.call j) ≡ Some t.value = ap (cut_rules.extended s.value) free.1 ∙ m.extended in
      let outer = both_parts _ _ t.value extended in
      let inner = both_parts _ _ t.value.b outer.second in
      let clock = mapped _ (next_clock p s.value.a.at s.call j) t.value.a (sym (clock-next p s.value.a.at s.call j below) ∙ outer.first) in
      record {
        differ = eqb-false s.call j arc.0;
        open_arc = arc.1;
        clock = clock.is ∙ ap (λ c. Some c.at) clock.gives;
        held = inner.first;
        sum = sym (ap (λ w. w.sum) (same_Some _ _ inner.second)) ∙ clamped_within (s.value.b.b.sum +ℤ step_value p r s.call j) room;
        call = m.call;
        hops = m.hops;
      }

  -- where the facts hold, the move can be made
  pub step_made : (s : State CutValue) (j at : ℕ) (held : List ℕ) → (site p j).closing < latest → s.call ≢ j → r.shut s.call j ≡ false → next_clock p s.value.a.at s.call j ≡ Some at → critical_after s.value.b.a (mark_of r j) ≡ Some held → (t : State CutValue) × (moved cut_rules (cut_moves p r) s j ≡ Some t) × (t.call ≡ j) × (t.value.a.at ≡ at) × (t.value.b.a ≡ held)
  step_made s j at held below differ open_arc clock marks =
      let step : step_between p r s.call j ≡ Some (cut_step p r s.call j) = cond-false _ None (Some (cut_step p r s.call j)) (or_from _ _ (ne_eqb s.call j differ) open_arc) in
      let clock_is = clock-next p s.value.a.at s.call j below ∙ ap (option_map (λ at. record { at = at })) clock in
      let value : CutValue = record { a = record { at = at }; b = record { a = held; b = record { sum = clamped (s.value.b.b.sum +ℤ step_value p r s.call j) } } } in
      let extended : cut_rules.extended s.value (cut_step p r s.call j) ≡ Some value = both_some _ _ _ _ clock_is (both_some _ _ _ _ marks refl) in
      (record { hops = s.hops + 1; call = j; value = value }, move_from cut_rules (cut_moves p r) s j (cut_step p r s.call j) value step extended, refl, refl, refl)
