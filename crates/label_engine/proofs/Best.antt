-- The best of the settled labels that can go to the end has the greatest value of a relaxed walk.
use Rattle.std.proofs.Common.{◌≡◌, ℕ, ◌+◌, ◌*◌, ◌<◌, ◌≤◌, ⊎_elim, true, false, List, [], ◌∷◌, ◌++◌, length, get_or, take, Option, None, Some, ℤ, pos, ◌+ℤ◌, ◌≤ℤ◌, refl, sym, ap, ◌∙◌, subst, arith, length-append, length-take-le}
use Rattle.std.specs.Prelude.{int_le, unsigned_abs}
use Rattle.std.specs.List.{All}
use Rattle.std.specs.Option.{option_map}
use Rattle.std.proofs.Math.Nat.{suc-mul, mul-le-mul_right}
use Rattle.std.proofs.lemmas.Bool.{cases_lt, cond_both}
use Rattle.std.proofs.lemmas.Int.{ints}
use Rattle.std.proofs.lemmas.List.{get_or_append_left, get_or_push, take_more}
use Rattle.std.proofs.lemmas.List.Elements.{All-nil, All-push, All-weaker}
use Rattle.std.proofs.lemmas.Option.{none-some, same_Some, get_or_from_slice_get}
use Rattle.label_core.specs.Worth.{most}
use Rattle.label_engine.specs.Front.{State, IsFrontState}
use Rattle.label_engine.specs.Settled.{CoversFronts, state_of, IsFrontOf, HasMoreThan}
use Rattle.label_engine.specs.Cut.{CutValue, cut_rules, cut_moves, IsBounded, Cut, IsCut, relaxed, IsBestOf}
use Rattle.label_engine.specs.Greatest.{IsAtCall, value_of, IsBestAt, IsBest, better, IsWalkOf}
use Rattle.label_engine.specs.declared.label.Label.{Label}
use Rattle.label_engine.specs.declared.replay.Closed.{Closed}
use Rattle.label_engine.proofs.CutLimits.{bounded, cut_laws, fitting, most_step}
use Rattle.label_engine.proofs.CutStates.{more_seen, more_labelled}
use Rattle.label_engine.proofs.CutWalks.{relaxed_from_front}
use Rattle.label_engine.proofs.Fronts.{Bounded, bounded as known_state}
use Rattle.label_engine.proofs.Rivals.{some_at}
use Rattle.label_engine.proofs.Sigma.{closed_walk, sigma}
use Rattle.orienteering.specs.Instance.{Problem, calls}
use Rattle.orienteering.specs.Sigma as seen
use Rattle.orienteering.specs.Walk.{Relaxation, step_value, value_along}
use Rattle.orienteering.proofs.Sigma.{sigma_is_the_only}
use Rattle.orienteering.proofs.States.{more_are_found, found_are_more}

tested_le : (a b : ℤ) → int_le a b ≡ true → a ≤ℤ b
tested_le a b e = grind (arith, ints)

untested_le : (a b : ℤ) → int_le a b ≡ false → b ≤ℤ a
untested_le a b e = grind (arith, ints)

le_itself : (a : ℤ) → a ≤ℤ a
le_itself a = omega (arith, ints)

le_again : (a b c : ℤ) → a ≤ℤ b → b ≤ℤ c → a ≤ℤ c
le_again a b c h k = omega (arith, ints)

from_none : (a : ℤ) → pos 0 +ℤ a ≡ a
from_none a = omega (arith, ints)

-- ---- one label more

module _ (c : Cut) (xs : List (Label CutValue)) (x : Label CutValue) where
  newest : Option ℤ → Type 0
  newest o = value_of c x ≡ o

  -- the label before stays the best
  stays : (o : Option ℤ) (b : Closed) → value_of c x ≡ o → IsBestAt c xs b → ((v : ℤ) → o ≡ Some v → v ≤ℤ b.value) → IsBestAt c (xs ++ x ∷ []) b
  stays o b e h low = record {
    within = omega (arith, h.within, length-append xs (x ∷ []));
    closed = λ d. ap (value_of c) (get_or_append_left xs (x ∷ []) d b.place h.within) ∙ h.closed d;
    greatest = All-push (λ label. (w : ℤ) → value_of c label ≡ Some w → w ≤ℤ b.value) xs x h.greatest (λ w f. low w (sym e ∙ f));
  }

  -- the new label is the best
  begins : (v : ℤ) → value_of c x ≡ Some v → All (λ label. (w : ℤ) → value_of c label ≡ Some w → w ≤ℤ v) xs → IsBestAt c (xs ++ x ∷ []) (record { place = length xs; value = v })
  begins v e low = record {
    within = omega (arith, length-append xs (x ∷ []));
    closed = λ d. ap (value_of c) (get_or_push xs x d (length xs) refl) ∙ e;
    greatest = All-push (λ label. (w : ℤ) → value_of c label ≡ Some w → w ≤ℤ v) xs x low (λ w f. subst (λ z. z ≤ℤ v) (same_Some v w (sym e ∙ f)) (le_itself v));
  }

  best_push : (o : Option ℤ) (best : Option Closed) → value_of c x ≡ o → IsBest c xs best → IsBest c (xs ++ x ∷ []) (better best (length xs) o)
  best_push None None e h = All-push (λ label. value_of c label ≡ None) xs x h e
  best_push None (Some b) e h = stays None b e h (λ v f. absurd (none-some v f))
  best_push (Some v) None e h = begins v e (All-weaker (λ label. value_of c label ≡ None) (λ label. (w : ℤ) → value_of c label ≡ Some w → w ≤ℤ v) (λ label none w f. absurd (none-some w (sym none ∙ f))) xs h)
  best_push (Some v) (Some b) e h =
      cond_both (int_le v b.value) (Some b) (Some (record { place = length xs; value = v })) (IsBest c (xs ++ x ∷ []))
      (λ less. stays (Some v) b e h (λ w f. subst (λ z. z ≤ℤ b.value) (same_Some v w f) (tested_le v b.value less)))
      (λ more. begins v e (All-weaker (λ label. (w : ℤ) → value_of c label ≡ Some w → w ≤ℤ b.value) (λ label. (w : ℤ) → value_of c label ≡ Some w → w ≤ℤ v) (λ label low w f. le_again w b.value v (low w f) (untested_le v b.value more)) xs h.greatest))

pub best_none : (c : Cut) → IsBest c [] None
best_none c = All-nil (λ label. value_of c label ≡ None)

pub best_more : (c : Cut) (labels : List (Label CutValue)) (k : ℕ) (label : Label CutValue) (best : Option Closed) → k < length labels → label ≡ get_or labels k label → IsBest c (take k labels) best → IsBest c (take (k + 1) labels) (better best k (value_of c label))
best_more c labels k label best within is h =
    let long : length (take k labels) ≡ k = length-take-le k labels (omega arith) in
    let pushed = best_push c (take k labels) label (value_of c label) best refl h in
    let all : take (k + 1) labels ≡ take k labels ++ label ∷ [] = take_more labels k label within ∙ ap (λ l. take k labels ++ l ∷ []) (sym is) in
    subst (λ l. IsBest c l (better best k (value_of c label))) (sym all)
    (subst (λ n. IsBest c (take k labels ++ label ∷ []) (better best n (value_of c label))) long pushed)

-- ---- the best of the settled labels

abs-add : (a b : ℤ) → unsigned_abs (a +ℤ b) ≤ unsigned_abs a + unsigned_abs b
abs-add a b = grind (arith, ints)

small_along : (p : Problem) (r : Relaxation) (step : ℕ) → IsBounded p r step → (i : ℕ) (js : List ℕ) → unsigned_abs (value_along p r i js) ≤ length js * step
small_along p r step b i [] = omega arith
small_along p r step b i (j ∷ js) =
    omega (arith, abs-add (step_value p r i j) (value_along p r j js), b.value i j, small_along p r step b j js, suc-mul (length js) step)

module _ (c : Cut) (is : IsCut c) (labels : List (Label CutValue)) (cover : CoversFronts cut_rules (cut_moves c.problem (relaxed c)) (calls c.problem) labels) where
  abbrev limits : IsBounded c.problem (relaxed c) most_step
  limits = bounded c.problem c.region c.price c.critical is.instance is.fit

  at_call : (s : State CutValue) → IsFrontState cut_rules (cut_moves c.problem (relaxed c)) (calls c.problem) s → Bounded cut_rules (cut_moves c.problem (relaxed c)) (cut_laws c.problem c.region c.price c.critical is.instance is.fit) (fitting c.problem c.region c.price c.critical is.instance is.fit) (calls c.problem) s
  at_call s front =
      known_state cut_rules (cut_moves c.problem (relaxed c)) (cut_laws c.problem c.region c.price c.critical is.instance is.fit) (fitting c.problem c.region c.price c.critical is.instance is.fit) (calls c.problem) s front

  pub all_at_calls : All (IsAtCall c) labels
  all_at_calls k d within =
      let label = get_or labels k d in
      let front = cover.reached k d within in
      let q = relaxed_from_front c.problem (relaxed c) most_step limits (state_of label) front.0 front.1 in
      let sum_is = q.1.sum in
      let small = small_along c.problem (relaxed c) most_step limits 0 front.0 in
      let few : length front.0 * most_step ≤ calls c.problem * most_step = mul-le-mul_right most_step front.1.short in
      let call = (at_call (state_of label) front).is_call in
      let total : unsigned_abs (value_along c.problem (relaxed c) 0 front.0) ≤ most = omega (arith, small, few, limits.sum) in
      record {
        call = (call.low, call.high);
        sum = subst (λ z. unsigned_abs z ≤ most) (sym (sum_is ∙ from_none (value_along c.problem (relaxed c) 0 front.0))) total;
      }

  best_of : (best : Option Closed) → IsBest c labels best → IsBestOf c.problem (relaxed c) labels (option_map (λ (b : Closed). b.value) best)
  best_of None h = h
  best_of (Some b) h =
      let some = some_at labels b.place h.within in
      let here : get_or labels b.place some.0 ≡ some.0 = get_or_from_slice_get labels b.place some.0 some.0 some.1 in
      record {
        reached = (b.place, some.0, h.within, here, ap (value_of c) (sym here) ∙ h.closed some.0);
        greatest = h.greatest;
      }

  pub best_is_sigma : (best : Option Closed) → IsBest c labels best → option_map (λ (b : Closed). b.value) best ≡ seen.sigma c.problem (relaxed c)
  best_is_sigma best h =
      sigma_is_the_only c.problem (relaxed c) (option_map (λ (b : Closed). b.value) best)
      (sigma c.problem (relaxed c) most_step limits labels cover (option_map (λ (b : Closed). b.value) best) (best_of best h))

  pub best_has_walk : (b : Closed) → IsBestAt c labels b → (front : List ℕ) → IsFrontOf cut_rules (cut_moves c.problem (relaxed c)) labels b.place front → IsWalkOf c.problem (relaxed c) b.value front
  best_has_walk b h front f =
      let here : get_or labels b.place f.label ≡ f.label = get_or_from_slice_get labels b.place f.label f.label f.stands in
      let few = (at_call (state_of (get_or labels b.place f.label)) (cover.reached b.place f.label h.within)).few in
      let short : f.label.hops ≤ calls c.problem = subst (λ (l : Label CutValue). l.hops ≤ calls c.problem) here few in
      let q = relaxed_from_front c.problem (relaxed c) most_step limits (state_of f.label) front
      (record { short = omega (arith, f.front_is.short, short); calls = f.front_is.calls; state = f.front_is.state }) in
      let w = closed_walk c.problem (relaxed c) front (state_of f.label) b.value q.0 q.1 (ap (value_of c) (sym here) ∙ h.closed f.label) in
      record { relaxed = w.0; reaches = w.1 }

-- ---- too many states

pub too_many : (c : Cut) → IsCut c → (limit : ℕ) → HasMoreThan cut_rules (cut_moves c.problem (relaxed c)) limit (calls c.problem) → limit < length (seen.undominated c.problem (relaxed c))
too_many c is limit h =
    more_are_found c.problem (relaxed c) limit (more_seen c.problem (relaxed c) most_step (bounded c.problem c.region c.price c.critical is.instance is.fit) limit h)

pub few_enough : (c : Cut) → IsCut c → (limit : ℕ) → (HasMoreThan cut_rules (cut_moves c.problem (relaxed c)) limit (calls c.problem) → ⊥) → length (seen.undominated c.problem (relaxed c)) ≤ limit
few_enough c is limit none =
    ⊎_elim
    (λ many. absurd (none (more_labelled c.problem (relaxed c) most_step (bounded c.problem c.region c.price c.critical is.instance is.fit) limit (found_are_more c.problem (relaxed c) limit many))))
    (λ few. few)
    (cases_lt limit (length (seen.undominated c.problem (relaxed c))))
