-- Each insertion is a plan to which no candidate is left: there are no more rounds than calls.
use Rattle.std.proofs.Common.{◌≡◌, ℕ, zero, suc, ◌+◌, ◌*◌, ◌%◌, ◌<◌, ◌≤◌, Bool, true, false, cond, List, [], ◌∷◌, ◌++◌, length, take, nat_eq, refl, ap, sym, ◌∙◌, length-append, arith}
use Rattle.std.specs.Prelude.{slice_get}
use Rattle.std.specs.List.{concat, flat_map, range_with_len}
use Rattle.std.specs.declared.option.Option.{Option}
use Rattle.std.specs.declared.option.Option.TheVariants.{None, Some}
use Rattle.std.proofs.lemmas.Map.Keys.{IsDistinct-cons}
use Rattle.orienteering.specs.Instance.{Problem, calls}
use Rattle.orienteering.specs.Tour.{IsPlan}
use Rattle.insert_heur.specs.Places.{with_call}
use Rattle.orienteering.specs.Instance.{IsCallAmong}
use Rattle.insert_heur.proofs.PlanCalls.{all_calls, length-distinct}
use Rattle.orienteering.specs.PlanCheck.{is_one_of}
use Rattle.itertools.specs.Extremes.{by_cmp}
use Rattle.draws.specs.Draws.{draws, draws_behind}
use Rattle.insert_heur.specs.Candidates.{candidates, ranked, candidate_cmp, at_call, put_before, in_order}
use Rattle.insert_heur.specs.Insertion.{chosen, grown, IsFinished, InsertionsFinish}
use Rattle.insert_heur.specs.declared.candidates.Weight.{Weight}
use Rattle.insert_heur.specs.declared.candidates.Candidate.{Candidate}
use Rattle.insert_heur.proofs.Growth.{opened, differ_all, visited_none}
use Rattle.insert_heur.proofs.Chosen.{CanGo, all_ranked, all_taken, chosen_can_go, no_tours}

length-draws : (x n : ℕ) → length (draws_behind x n) ≡ n
length-draws x zero = refl
length-draws x (suc n) = ap suc (length-draws ((48271 * x) % 2147483647) n)

-- a list in order is empty where the list is
none_put : {X : Type 0} (lt : X → X → Bool) (x : X) (ys : List X) → put_before lt x ys ≡ [] → ⊥
none_put lt x [] h = cc
none_put {X} lt x (y ∷ ys) h =
    elim (lt x y) as (λ b. ◌≡◌ {A = List X} (cond b (x ∷ y ∷ ys) (y ∷ put_before lt x ys)) [] → ⊥) [
      | true ↦ λ e. cc
      | false ↦ λ e. cc
    ] h

none_in_order : {X : Type 0} (lt : X → X → Bool) (xs : List X) → in_order lt xs ≡ [] → xs ≡ []
none_in_order lt [] h = refl
none_in_order lt (x ∷ xs) h = absurd (none_put lt x (in_order lt xs) h)

none_taken : {X : Type 0} (n : ℕ) (xs : List X) → take (suc n) xs ≡ [] → xs ≡ []
none_taken n [] h = refl
none_taken n (x ∷ xs) h = absurd (cc)

-- the rest of a division names an element
got_inside : {X : Type 0} (xs : List X) (i : ℕ) → i < length xs → slice_get xs i ≡ None → ⊥
got_inside [] i h e = absurd (omega arith)
got_inside (x ∷ xs) zero h e = cc
got_inside (x ∷ xs) (suc i) h e = got_inside xs i (omega arith) e

none_left : (draw : ℕ) (best : List Candidate) → chosen draw best ≡ None → best ≡ []
none_left draw [] e = refl
none_left draw (c ∷ cs) e = absurd (got_inside (c ∷ cs) (draw % length (c ∷ cs)) (rest_below draw (length cs)) e)
  where
    rest_below : (m n : ℕ) → m % suc n < suc n
    rest_below m n = omega arith

-- a plan with as many calls as there are visits each of them
visits_all : (p : Problem) (plan : List (List ℕ)) → IsPlan p plan → calls p ≤ length (concat plan) → (call : ℕ) →
    IsCallAmong (calls p) call → is_one_of (concat plan) call ≡ true
visits_all p plan h many call from =
    elim (is_one_of (concat plan) call) as (λ b. is_one_of (concat plan) call ≡ b → is_one_of (concat plan) call ≡ true) [
      | true ↦ λ e. e
      | false ↦ λ e.
          let few = length-distinct (calls p) (call ∷ concat plan) (from, all_calls p plan h.feasible)
          (IsDistinct-cons nat_eq call (concat plan) (differ_all call (concat plan) e) h.disjoint) in
          absurd (omega arith)
    ] refl

none_from : (p : Problem) (w : Weight) (plan : List (List ℕ)) →
    ((call : ℕ) → IsCallAmong (calls p) call → is_one_of (concat plan) call ≡ true) → (a n : ℕ) → 1 ≤ a → a + n ≤ calls p + 1 →
    flat_map (at_call p w plan) (range_with_len a n) ≡ []
none_from p w plan all a zero h k = refl
none_from p w plan all a (suc n) h k =
    ap (λ xs. xs ++ flat_map (at_call p w plan) (range_with_len (a + 1) n)) (visited_none p w plan a (all a (h, omega arith)))
    ∙ none_from p w plan all (a + 1) n (omega arith) (omega arith)

one_call_more : (plan : List (List ℕ)) (call tour position : ℕ) →
    length (concat (with_call plan call tour position)) ≡ length (concat plan) + 1
one_call_more plan call tour position =
    let o = opened plan call tour position in
    omega (arith, ap length o.before, ap length o.after, length-append o.front o.back, length-append o.front (call ∷ o.back))

pub finishes : (p : Problem) (w : Weight) (plan : List (List ℕ)) (later : List ℕ) → IsPlan p plan →
    calls p ≤ length (concat plan) + length later → IsFinished p w (grown p w plan later)
finishes p w plan [] h many =
    record { valid = h; none_left = none_from p w plan (visits_all p plan h (omega arith)) 1 (calls p) (omega arith) (omega arith) }
finishes p w plan (draw ∷ later) h many =
    elim (chosen draw (take 3 (ranked p w plan))) as (λ (o : Option Candidate). chosen draw (take 3 (ranked p w plan)) ≡ o →
    IsFinished p w (elim o [ None ↦ plan | Some c ↦ grown p w (with_call plan c.call c.tour c.position) later ])) [
      | None ↦ λ e. record {
        valid = h;
        none_left = none_in_order (by_cmp candidate_cmp) (candidates p w plan) (none_taken 2 (ranked p w plan) (none_left draw (take 3 (ranked p w plan)) e));
      }
      | Some c ↦ λ e.
          let can = chosen_can_go (CanGo p plan) draw (take 3 (ranked p w plan)) c
          (all_taken (CanGo p plan) 3 (ranked p w plan) (all_ranked p w plan)) (sym e) in
          finishes p w (with_call plan c.call c.tour c.position) later can.valid
          (omega (arith, one_call_more plan c.call c.tour c.position))
    ] refl

pub insertions_finish : InsertionsFinish
insertions_finish p seed w =
    finishes p w [] (draws seed (calls p)) (no_tours p) (omega (arith, length-draws (seed % 2147483646 + 1) (calls p)))
