-- Walks that repeat no call are tours, and a walk's repeated call isn't critical.
use Rattle.std.proofs.Common.{◌≡◌, ◌≢◌, inl, ℕ, ◌≤◌, Bool, true, false, true≢false, cond, ◌||◌, nat_eq, List, [], ◌∷◌, ◌++◌, Option, None, Some, filter, refl, ap, sym, subst, ◌∙◌, arith, append-nil, append_assoc}
use Rattle.std.specs.List.{AllByRecursion, AllPairs, IsDistinct}
use Rattle.std.proofs.lemmas.Bool.{false_from_ne_true}
use Rattle.std.proofs.lemmas.Bool.Decides.{nat_tests, Decides-eqb}
use Rattle.std.proofs.lemmas.List.Folds.{list_any_at}
use Rattle.std.proofs.lemmas.List.Quantifiers.{all_pairs_push}
use Rattle.std.proofs.lemmas.Map.Keys.{IsDistinct-head, IsDistinct-tail}
use Rattle.std.proofs.lemmas.Map.Made.{IsDistinct-from_AllPairs}
use Rattle.orienteering.specs.Duality.{BoundsTours}
use Rattle.orienteering.specs.Instance.{Problem, calls, IsCall, end_place}
use Rattle.orienteering.specs.Region.{Region, is_shut}
use Rattle.orienteering.specs.Replay.{relaxation}
use Rattle.orienteering.specs.Walk.{IsOpenAlong, last_place}
use Rattle.orienteering.specs.declared.Price.{Price}
use Rattle.orienteering.proofs.Replay.{tour_is_worth}
use Rattle.orienteering.proofs.Sigma.{tested_if_open}
use Rattle.label_engine.specs.Greatest.{sigma_of, HasWalk, is_open_tour}
use Rattle.label_engine.specs.declared.replay.Outcome.{Outcome}
use Rattle.label_engine.specs.declared.replay.Outcome.TheVariants.{NoWalk, Best}
use Rattle.relax_states.specs.Repeats.{stands_in, repeated_after, repeated}
use Rattle.relax_states.specs.declared.growing.Relaxed.{Relaxed}
use Rattle.relax_states.specs.Elementary.{IsTourOutcome, IsStopped}
use Rattle.relax_states.specs.Growing.{IsReplayed, IsGrown}
use Rattle.std.specs.Option.{is_none}

-- ---- the call that comes back

same_call : (x y : ℕ) → nat_eq x y ≡ true → x ≡ y
same_call x y h = grind (arith, nat_tests)

itself : (x : ℕ) → nat_eq x x ≡ true
itself x = grind (arith, nat_tests)

-- a call that passes the test is kept
kept : (P : ℕ → Type 0) (t : ℕ → Bool) (xs : List ℕ) (c : ℕ) (cs : List ℕ) → t c ≡ true → AllByRecursion P (filter t (xs ++ c ∷ cs)) → P c
kept P t [] c cs h a = (subst (λ b. AllByRecursion P (cond b (c ∷ filter t cs) (filter t cs))) h a).0
kept P t (x ∷ xs) c cs h a =
    elim (t x) as (λ b. AllByRecursion P (cond b (x ∷ filter t (xs ++ c ∷ cs)) (filter t (xs ++ c ∷ cs))) → P c) [
      | true ↦ λ k. kept P t xs c cs h k.1
      | false ↦ λ k. kept P t xs c cs h k
    ] a

-- a call that passes the test doesn't stand before itself where those that pass are distinct
not_twice : (t : ℕ → Bool) (xs : List ℕ) (c : ℕ) (cs : List ℕ) → stands_in xs c ≡ true → t c ≡ true → IsDistinct nat_eq (filter t (xs ++ c ∷ cs)) → ⊥
not_twice t [] c cs s h d = true≢false (sym s)
not_twice t (x ∷ xs) c cs s h d =
    elim (nat_eq c x) as (λ b. nat_eq c x ≡ b → (b || stands_in xs c) ≡ true → ⊥) [
      | true ↦ λ e k.
          let same = same_call c x e in
          let keeps : t x ≡ true = sym (ap t same) ∙ h in
          let d2 : IsDistinct nat_eq (x ∷ filter t (xs ++ c ∷ cs)) = subst (λ b. IsDistinct nat_eq (cond b (x ∷ filter t (xs ++ c ∷ cs)) (filter t (xs ++ c ∷ cs)))) keeps d in
          let apart = kept (λ y. nat_eq x y ≡ false) t xs c cs h (IsDistinct-head nat_eq x (filter t (xs ++ c ∷ cs)) d2) in
          true≢false (sym (itself x) ∙ ap (nat_eq x) (sym same) ∙ apart)
      | false ↦ λ e k.
          elim (t x) as (λ b. IsDistinct nat_eq (cond b (x ∷ filter t (xs ++ c ∷ cs)) (filter t (xs ++ c ∷ cs))) → ⊥) [
            | true ↦ λ d2. not_twice t xs c cs k h (IsDistinct-tail nat_eq x (filter t (xs ++ c ∷ cs)) d2)
            | false ↦ λ d2. not_twice t xs c cs k h d2
          ] d
    ] refl s

-- the call that comes back is one of the calls
repeated_is : (P : ℕ → Type 0) (earlier rest : List ℕ) (call : ℕ) → repeated_after earlier rest ≡ Some call → AllByRecursion P rest → P call
repeated_is P earlier [] call e a = absurd (cc)
repeated_is P earlier (c ∷ cs) call e a =
    elim (stands_in earlier c) as (λ b. ◌≡◌ {A = Option ℕ} (cond b (Some c) (repeated_after (earlier ++ c ∷ []) cs)) (Some call) → P call) [
      | true ↦ λ k. let same : c ≡ call = cc in subst P same a.0
      | false ↦ λ k. repeated_is P (earlier ++ c ∷ []) cs call k a.1
    ] e

-- it doesn't pass a test of which those that pass are distinct
repeated_fails : (t : ℕ → Bool) (earlier rest : List ℕ) (call : ℕ) → repeated_after earlier rest ≡ Some call → IsDistinct nat_eq (filter t (earlier ++ rest)) → t call ≡ true → ⊥
repeated_fails t earlier [] call e d h = absurd (cc)
repeated_fails t earlier (c ∷ cs) call e d h =
    elim (stands_in earlier c) as (λ b. stands_in earlier c ≡ b → ◌≡◌ {A = Option ℕ} (cond b (Some c) (repeated_after (earlier ++ c ∷ []) cs)) (Some call) → ⊥) [
      | true ↦ λ s k. let same : c ≡ call = cc in not_twice t earlier c cs s (ap t same ∙ h) d
      | false ↦ λ s k. repeated_fails t (earlier ++ c ∷ []) cs call k (subst (λ xs. IsDistinct nat_eq (filter t xs)) (sym (append_assoc earlier (c ∷ []) cs)) d) h
    ] refl e

-- where no call comes back, the calls are distinct
none_repeated : (earlier rest : List ℕ) → AllPairs ◌≢◌ earlier → repeated_after earlier rest ≡ None → AllPairs ◌≢◌ (earlier ++ rest)
none_repeated earlier [] a e = subst (AllPairs ◌≢◌) (sym (append-nil earlier)) a
none_repeated earlier (c ∷ cs) a e =
    elim (stands_in earlier c) as (λ b. stands_in earlier c ≡ b → ◌≡◌ {A = Option ℕ} (cond b (Some c) (repeated_after (earlier ++ c ∷ []) cs)) None → AllPairs ◌≢◌ (earlier ++ c ∷ cs)) [
      | true ↦ λ s k. absurd (cc)
      | false ↦ λ s k.
          let more : AllPairs ◌≢◌ (earlier ++ c ∷ []) = all_pairs_push ◌≢◌ earlier c a (λ i d below same. true≢false (sym (list_any_at (nat_eq c) earlier i d below (ap (nat_eq c) same ∙ itself c)) ∙ s)) in
          subst (AllPairs ◌≢◌) (append_assoc earlier (c ∷ []) cs) (none_repeated (earlier ++ c ∷ []) cs more k)
    ] refl e

-- ---- the outcome of a replay

-- what is needed of one more critical call
pub record IsNewCall (last : ℕ) (critical : List ℕ) (call : ℕ) : Type 0 where
  pub low : 1 ≤ call
  pub high : call ≤ last
  pub new : stands_in critical call ≡ false

open_stops : (shut : ℕ → ℕ → Bool) (i : ℕ) (js : List ℕ) (e : ℕ) → IsOpenAlong shut i js → shut (last_place i js) e ≡ false → IsOpenAlong shut i (js ++ e ∷ [])
open_stops shut i [] e o c = (c, tt)
open_stops shut i (j ∷ js) e o c = (o.0, open_stops shut j js e o.1 c)

module _ (p : Problem) (now : Region) (price : Price) (critical : List ℕ) where
  -- the repeated call of a walk is new to its critical set
  pub repeated_is_new : (outcome : Outcome) (call : ℕ) → HasWalk p (relaxation now price critical) outcome → repeated outcome ≡ Some call → IsNewCall (calls p) critical call
  repeated_is_new NoWalk call walk e = absurd (cc)
  repeated_is_new (Best sigma calls_of) call walk e =
      let is = repeated_is (IsCall p) [] calls_of call e walk.relaxed.front.calls in
      record { low = is.0; high = is.1; new = false_from_ne_true _ (repeated_fails (stands_in critical) [] calls_of call e walk.relaxed.front.once) }

  -- where the walk repeats no call, the outcome is that of tours
  pub elementary_outcome : (outcome : Outcome) → HasWalk p (relaxation now price critical) outcome → BoundsTours p price (is_open_tour p now) (sigma_of outcome) → repeated outcome ≡ None → IsTourOutcome p now price outcome
  elementary_outcome NoWalk walk bounds e = λ tour open_tour. bounds tour open_tour.feasible open_tour.open_arcs
  elementary_outcome (Best sigma tour) walk bounds e =
      let front = walk.relaxed.front in
      record {
        tour_is = record {
          feasible = record {
            some_call = front.some_call;
            calls = front.calls;
            distinct = IsDistinct-from_AllPairs Decides-eqb tour (none_repeated [] tour (λ i j d below within. absurd (omega arith)) e);
            in_time = walk.relaxed.in_time;
          };
          open_arcs = tested_if_open (is_shut now) 0 (tour ++ end_place p ∷ []) (open_stops (is_shut now) 0 tour (end_place p) front.open_arcs walk.relaxed.closes);
        };
        worth = sym (tour_is_worth p now price critical tour) ∙ walk.reaches;
        greatest = λ other open_tour. bounds other open_tour.feasible open_tour.open_arcs;
      }

-- ---- the answer

module _ (p : Problem) (now : Region) (price : Price) (limit : ℕ) where
  -- the answer for a set as it is
  abbrev answer : List ℕ → Outcome → Bool → Relaxed
  answer critical outcome elementary = record { critical = critical; outcome = outcome; elementary = elementary }

  -- the walk repeats no call
  pub grown_to_tours : (size : ℕ) (critical : List ℕ) (outcome : Outcome) → IsReplayed p now price limit size critical outcome → repeated outcome ≡ None → IsGrown p now price limit (answer critical outcome true)
  grown_to_tours size critical outcome r none = record {
    set = r.set;
    sigma_is = r.sigma_is;
    walk_is = r.walk_is;
    few = r.few;
    elementary = (λ _. none, λ _. refl);
    tours = λ _. elementary_outcome p now price critical outcome r.walk_is r.tours_bounded none;
    stopped = λ e. absurd (true≢false e);
  }

  -- the walk repeats a call, and the set can't grow
  pub grown_to_limit : (size : ℕ) (critical : List ℕ) (outcome : Outcome) → IsReplayed p now price limit size critical outcome → IsStopped p now price limit critical outcome → IsGrown p now price limit (answer critical outcome false)
  grown_to_limit size critical outcome r s = record {
    set = r.set;
    sigma_is = r.sigma_is;
    walk_is = r.walk_is;
    few = r.few;
    elementary = (λ e. absurd (true≢false (sym e)), λ none. absurd (some_is_none s.call (sym s.repeats ∙ none)));
    tours = λ e. absurd (true≢false (sym e));
    stopped = λ _. s;
  }
    where
      some_is_none : (call : ℕ) → ◌≡◌ {A = Option ℕ} (Some call) None → ⊥
      some_is_none call e = cc

  -- the set is full
  pub grown_full : (critical : List ℕ) (outcome : Outcome) → IsReplayed p now price limit 64 critical outcome → (again : Option ℕ) → again ≡ repeated outcome → IsGrown p now price limit (answer critical outcome (is_none again))
  grown_full critical outcome r None e = grown_to_tours 64 critical outcome r (sym e)
  grown_full critical outcome r (Some call) e = grown_to_limit 64 critical outcome r (record { call = call; repeats = sym e; ends = inl r.size_is })
