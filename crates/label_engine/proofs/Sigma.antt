-- Of labels that cover all fronts, the best that can close is the greatest value of a relaxed walk.
use Rattle.std.proofs.Common.{◌≡◌, ℕ, ◌+◌, ◌*◌, ◌≤◌, max, Bool, true, false, cond, leb, List, [], ◌∷◌, ◌++◌, Option, None, Some, refl, sym, ap, ◌∙◌, subst, arith, ℤ, pos, ◌+ℤ◌, ◌-ℤ◌, ◌≤ℤ◌}
use Rattle.std.specs.Prelude.{int_le}
use Rattle.std.specs.List.{Contains}
use Rattle.std.specs.Option.{option_and_then, option_map, is_some}
use Rattle.std.proofs.lemmas.Bool.{cond-true, cond-false, leb-true, le-leb, and_parts, false≢true}
use Rattle.std.proofs.lemmas.Int.{ints}
use Rattle.std.proofs.lemmas.List.Elements.{All-contains}
use Rattle.std.proofs.lemmas.Option.{none-some, cond_some}
use Rattle.label_engine.specs.Front.{State, covers, IsFrontState}
use Rattle.label_engine.specs.Settled.{CoversFronts, state_of}
use Rattle.label_engine.specs.Cut.{CutValue, cut_rules, cut_moves, IsBounded, closed_value, IsBestOf}
use Rattle.label_engine.specs.declared.label.Label.{Label}
use Rattle.label_engine.proofs.Covering.{cover_parts, mapped}
use Rattle.label_engine.proofs.CutFronts.{Along}
use Rattle.label_engine.proofs.CutWalks.{origin, relaxed_from_front, front_from_relaxed}
use Rattle.orienteering.specs.Instance.{Problem, site, calls, end_place, travel, next_clock}
use Rattle.orienteering.specs.Tour.{clock_along, stops}
use Rattle.orienteering.specs.Walk.{Relaxation, last_place, IsRelaxedFront, IsRelaxedWalk, front_value, walk_value, IsSigma}

and_then-Some : {A : Type 0} (o : Option A) → option_and_then (λ x. Some x) o ≡ o
and_then-Some None = refl
and_then-Some (Some x) = refl

-- one place more
clock_along-push : (p : Problem) (c i : ℕ) (js : List ℕ) (e : ℕ) → clock_along p c i (js ++ e ∷ []) ≡ option_and_then (λ d. next_clock p d (last_place i js) e) (clock_along p c i js)
clock_along-push p c i [] e = and_then-Some (next_clock p c i e)
clock_along-push p c i (j ∷ js) e =
    elim (next_clock p c i j) as (λ o. option_and_then (λ d. clock_along p d j (js ++ e ∷ [])) o ≡ option_and_then (λ d. next_clock p d (last_place j js) e) (option_and_then (λ d. clock_along p d j js) o))
    [ None ↦ refl | Some d ↦ clock_along-push p d j js e ]

-- whoever is earlier is in time too
earlier_in_time : (p : Problem) (c d i j at : ℕ) → c ≤ d → next_clock p d i j ≡ Some at → (t : ℕ) × (next_clock p c i j ≡ Some t)
earlier_in_time p c d i j at le e =
    let early : ℕ = max (c + (site p i).service + travel p i j) (site p j).opening in
    let late : ℕ = max (d + (site p i).service + travel p i j) (site p j).opening in
    let in_time = leb-true late (site p j).closing (cond_some (leb late (site p j).closing) late at e).0 in
    (early, cond-true (leb early (site p j).closing) (Some early) None (le-leb early (site p j).closing (omega arith)))

le_from_test : (a b : ℤ) → int_le a b ≡ true → a ≤ℤ b
le_from_test a b e = grind (arith, ints)

lower : (a b c : ℤ) → a ≤ℤ b → (a -ℤ c) ≤ℤ (b -ℤ c)
lower a b c h = omega (arith, ints)

le_again : (a b c : ℤ) → a ≤ℤ b → b ≤ℤ c → a ≤ℤ c
le_again a b c h k = omega (arith, ints)

from_none : (a : ℤ) → pos 0 +ℤ a ≡ a
from_none a = omega (arith, ints)

module _ (p : Problem) (r : Relaxation) where
  -- what a state that can close says
  record Closes (s : State CutValue) (v : ℤ) : Type 0 where
    open_arc : r.shut s.call (end_place p) ≡ false
    at : ℕ
    clock : next_clock p s.value.a.at s.call (end_place p) ≡ Some at
    value : s.value.b.b.sum -ℤ pos (r.beta * travel p s.call (end_place p)) ≡ v

  closes : (s : State CutValue) (v : ℤ) → closed_value p r s ≡ Some v → Closes s v
  closes s v e =
      let made = option_map (λ _. s.value.b.b.sum -ℤ pos (r.beta * travel p s.call (end_place p))) (next_clock p s.value.a.at s.call (end_place p)) in
      let q = open_part (r.shut s.call (end_place p)) made v e in
      let m = mapped _ (next_clock p s.value.a.at s.call (end_place p)) v q.1 in
      record { open_arc = q.0; at = m.value; clock = m.is; value = m.gives }
    where
      open_part : (b : Bool) (o : Option ℤ) (v : ℤ) → cond b None o ≡ Some v → (b ≡ false) × (o ≡ Some v)
      open_part true o v e = absurd (none-some v e)
      open_part false o v e = (refl, e)

  closed_from : (s : State CutValue) (at : ℕ) → r.shut s.call (end_place p) ≡ false → next_clock p s.value.a.at s.call (end_place p) ≡ Some at → closed_value p r s ≡ Some (s.value.b.b.sum -ℤ pos (r.beta * travel p s.call (end_place p)))
  closed_from s at open_arc clock = cond-false _ None _ open_arc ∙ ap (option_map (λ _. s.value.b.b.sum -ℤ pos (r.beta * travel p s.call (end_place p)))) clock

  -- what covers a state that can close can close too, with at least its value
  record ClosesToo (s : State CutValue) (v : ℤ) : Type 0 where
    value : ℤ
    closed : closed_value p r s ≡ Some value
    more : v ≤ℤ value

  closes_too : (s t : State CutValue) (v : ℤ) → covers cut_rules s t ≡ true → closed_value p r t ≡ Some v → ClosesToo s v
  closes_too s t v e closed =
      let c = cover_parts cut_rules s t e in
      let outer = and_parts _ _ c.value in
      let inner = and_parts _ _ outer.1 in
      let k = closes t v closed in
      let clock_t : next_clock p t.value.a.at s.call (end_place p) ≡ Some k.at = ap (λ i. next_clock p t.value.a.at i (end_place p)) c.call ∙ k.clock in
      let early = earlier_in_time p s.value.a.at t.value.a.at s.call (end_place p) k.at (leb-true _ _ outer.0) clock_t in
      let same_end : t.value.b.b.sum -ℤ pos (r.beta * travel p s.call (end_place p)) ≡ v = ap (λ i. t.value.b.b.sum -ℤ pos (r.beta * travel p i (end_place p))) c.call ∙ k.value in
      record {
        value = s.value.b.b.sum -ℤ pos (r.beta * travel p s.call (end_place p));
        closed = closed_from s early.0 (ap (λ i. r.shut i (end_place p)) c.call ∙ k.open_arc) early.1;
        more = subst (λ z. z ≤ℤ (s.value.b.b.sum -ℤ pos (r.beta * travel p s.call (end_place p)))) same_end
            (lower t.value.b.b.sum s.value.b.b.sum (pos (r.beta * travel p s.call (end_place p))) (le_from_test t.value.b.b.sum s.value.b.b.sum inner.1));
      }

  -- the value at the end of a walk
  ends_with : (walk : List ℕ) (s : State CutValue) → Along p r (origin p r) walk s → s.value.b.b.sum -ℤ pos (r.beta * travel p s.call (end_place p)) ≡ walk_value p r walk
  ends_with walk s a =
      ap (λ z. z -ℤ pos (r.beta * travel p s.call (end_place p))) (a.sum ∙ from_none (front_value p r walk)) ∙
      ap (λ i. front_value p r walk -ℤ pos (r.beta * travel p i (end_place p))) a.call

  -- the clock at the end of a walk
  end_clock : (walk : List ℕ) (s : State CutValue) → Along p r (origin p r) walk s → clock_along p (site p 0).opening 0 (stops p walk) ≡ next_clock p s.value.a.at s.call (end_place p)
  end_clock walk s a =
      clock_along-push p (site p 0).opening 0 walk (end_place p) ∙
      ap (option_and_then (λ d. next_clock p d (last_place 0 walk) (end_place p))) a.clock ∙
      ap (λ i. next_clock p s.value.a.at i (end_place p)) (sym a.call)

  walk_closes : (walk : List ℕ) (s : State CutValue) → IsRelaxedWalk p r walk → Along p r (origin p r) walk s → closed_value p r s ≡ Some (walk_value p r walk)
  walk_closes walk s w a =
      let at = some_value (next_clock p s.value.a.at s.call (end_place p)) (ap is_some (sym (end_clock walk s a)) ∙ w.in_time) in
      closed_from s at.0 (ap (λ i. r.shut i (end_place p)) a.call ∙ w.closes) at.1 ∙ ap (λ v. Some v) (ends_with walk s a)
    where
      some_value : (o : Option ℕ) → is_some o ≡ true → (x : ℕ) × (o ≡ Some x)
      some_value None e = absurd (false≢true e)
      some_value (Some x) e = (x, refl)

  pub closed_walk : (walk : List ℕ) (s : State CutValue) (v : ℤ) → IsRelaxedFront p r walk → Along p r (origin p r) walk s → closed_value p r s ≡ Some v → IsRelaxedWalk p r walk × (walk_value p r walk ≡ v)
  closed_walk walk s v f a e =
      let k = closes s v e in (
        record {
          front = f;
          closes = ap (λ i. r.shut i (end_place p)) (sym a.call) ∙ k.open_arc;
          in_time = ap is_some (end_clock walk s a ∙ k.clock);
        },
        sym (ends_with walk s a) ∙ k.value,
      )

  module _ (step : ℕ) (bounded : IsBounded p r step) (labels : List (Label CutValue)) (cover : CoversFronts cut_rules (cut_moves p r) (calls p) labels) where
    -- some label that can close has at least the value of a walk
    record Matched (walk : List ℕ) : Type 0 where
      label : Label CutValue
      held : Contains labels label
      value : ℤ
      closed : closed_value p r (state_of label) ≡ Some value
      more : walk_value p r walk ≤ℤ value

    matched : (walk : List ℕ) → IsRelaxedWalk p r walk → Matched walk
    matched walk w =
        let q = front_from_relaxed p r step bounded walk w.front in
        let c = cover.covering q.0 q.1 in
        let k = closes_too (state_of c.kept) q.0 (walk_value p r walk) c.covers (walk_closes walk q.0 w q.2) in
        record { label = c.kept; held = c.held; value = k.value; closed = k.closed; more = k.more }

    pub sigma : (best : Option ℤ) → IsBestOf p r labels best → IsSigma p r best
    sigma None none = λ walk w.
        let m = matched walk w in
        let shut = All-contains (λ label. closed_value p r (state_of label) ≡ None) labels m.label none m.held in
        none-some m.value (sym shut ∙ m.closed)
    sigma (Some v) best =
        let any = best.reached in
        let label = any.1 in
        let front = All-contains (λ l. IsFrontState cut_rules (cut_moves p r) (calls p) (state_of l)) labels label cover.reached (any.0, any.2, any.3) in
        let q = relaxed_from_front p r step bounded (state_of label) front.0 front.1 in
        let w = closed_walk front.0 (state_of label) v q.0 q.1 any.4 in
        record {
          reached = (front.0, w.0, w.1);
          greatest = λ walk is_walk.
              let m = matched walk is_walk in
              le_again (walk_value p r walk) m.value v m.more
              (All-contains (λ l. (x : ℤ) → closed_value p r (state_of l) ≡ Some x → x ≤ℤ v) labels m.label best.greatest m.held m.value m.closed);
        }
