-- What each candidate is, and what a round makes of a plan.
use Rattle.std.proofs.Common.{◌≡◌, ℕ, zero, suc, ◌+◌, ◌%◌, ◌-◌, ◌<◌, ◌≤◌, true, false, cond, ◌&&◌, List, [], ◌∷◌, length, take, refl, ap, sym, subst, ◌∙◌, arith}
use Rattle.std.specs.Prelude.{pos, int_lt, slice_get}
use Rattle.std.specs.List.{AllByRecursion, IsDistinct, filter_map, cons_option, flat_map, range_with_len}
use Rattle.std.specs.declared.option.Option.{Option}
use Rattle.std.specs.declared.option.Option.TheVariants.{None, Some}
use Rattle.orienteering.specs.Instance.{Problem, calls}
use Rattle.orienteering.specs.Tour.{IsPlan}
use Rattle.insert_heur.specs.Places.{tour_at, with_call}
use Rattle.orienteering.proofs.Lists.{AllByRecursion-append}
use Rattle.itertools.specs.Extremes.{by_cmp}
use Rattle.insert_heur.specs.Candidates.{is_plan, gain_of, candidate_at, at_tour, at_call, candidates, ranked, candidate_cmp}
use Rattle.draws.specs.Draws.{next_draw, draws_behind}
use Rattle.insert_heur.specs.Insertion.{chosen, grown}
use Rattle.insert_heur.specs.declared.candidates.Weight.{Weight}
use Rattle.insert_heur.specs.declared.candidates.Candidate.{Candidate}
use Rattle.insert_heur.proofs.Growth.{is_plan_right}
use Rattle.insert_heur.proofs.Ordered.{all_in_order}

-- a candidate can be put in, and leaves a plan
pub record CanGo (p : Problem) (plan : List (List ℕ)) (c : Candidate) : Type 0 where
  pub tour : c.tour ≤ length plan
  pub position : c.position ≤ length (tour_at plan c.tour)
  pub valid : IsPlan p (with_call plan c.call c.tour c.position)

module _ (p : Problem) (w : Weight) (plan : List (List ℕ)) where
  can_go : (call tour position : ℕ) → tour ≤ length plan → position ≤ length (tour_at plan tour) → (c : Candidate) →
      candidate_at p w plan call tour position ≡ Some c → CanGo p plan c
  can_go call tour position there room c e =
      let next = with_call plan call tour position in
      let gain = gain_of p w plan call next in
      let own : Candidate = record { gain = gain; call = call; tour = tour; position = position } in
      elim (is_plan p next) as (λ b. is_plan p next ≡ b →
      ◌≡◌ {A = Option Candidate} (cond (b && int_lt (pos 0) gain) (Some own) None) (Some c) → CanGo p plan c) [
        | true ↦ λ valid h.
            elim (int_lt (pos 0) gain) as (λ b. ◌≡◌ {A = Option Candidate} (cond b (Some own) None) (Some c) → CanGo p plan c) [
              | true ↦ λ k.
                  let same : own ≡ c = cc in
                  subst (CanGo p plan) same (record { tour = there; position = room; valid = is_plan_right p next valid })
              | false ↦ λ k. absurd (cc)
            ] h
        | false ↦ λ valid h. absurd (cc)
      ] refl e

  all_at : (call tour : ℕ) → tour ≤ length plan → (a n : ℕ) → a + n ≤ length (tour_at plan tour) + 1 →
      AllByRecursion (CanGo p plan) (filter_map (candidate_at p w plan call tour) (range_with_len a n))
  all_at call tour there a zero h = tt
  all_at call tour there a (suc n) h =
      let rest = all_at call tour there (a + 1) n (omega arith) in
      elim (candidate_at p w plan call tour a) as (λ (o : Option Candidate). candidate_at p w plan call tour a ≡ o →
      AllByRecursion (CanGo p plan) (cons_option o (filter_map (candidate_at p w plan call tour) (range_with_len (a + 1) n)))) [
        | None ↦ λ e. rest
        | Some c ↦ λ e. (can_go call tour a there (omega arith) c e, rest)
      ] refl

  all_tours : (call a n : ℕ) → a + n ≤ length plan + 1 →
      AllByRecursion (CanGo p plan) (flat_map (at_tour p w plan call) (range_with_len a n))
  all_tours call a zero h = tt
  all_tours call a (suc n) h =
      AllByRecursion-append (CanGo p plan) (at_tour p w plan call a) (flat_map (at_tour p w plan call) (range_with_len (a + 1) n))
      (all_at call a (omega arith) 0 (length (tour_at plan a) + 1) (omega arith)) (all_tours call (a + 1) n (omega arith))

  all_calls : (a n : ℕ) → AllByRecursion (CanGo p plan) (flat_map (at_call p w plan) (range_with_len a n))
  all_calls a zero = tt
  all_calls a (suc n) =
      AllByRecursion-append (CanGo p plan) (at_call p w plan a) (flat_map (at_call p w plan) (range_with_len (a + 1) n))
      (all_tours a 0 (length plan + 1) (omega arith)) (all_calls (a + 1) n)

  pub all_ranked : AllByRecursion (CanGo p plan) (ranked p w plan)
  all_ranked = all_in_order (by_cmp candidate_cmp) (CanGo p plan) (candidates p w plan) (all_calls 1 (calls p))

pub all_taken : {X : Type 0} (P : X → Type 0) (n : ℕ) (xs : List X) → AllByRecursion P xs → AllByRecursion P (take n xs)
all_taken P zero xs a = tt
all_taken P (suc n) [] a = tt
all_taken P (suc n) (x ∷ xs) a = (a.0, all_taken P n xs a.1)

-- what holds of each element holds of the chosen one
all_got : {X : Type 0} (P : X → Type 0) (xs : List X) (i : ℕ) (x : X) → AllByRecursion P xs → slice_get xs i ≡ Some x → P x
all_got {X} P [] zero x a e = absurd (cc)
all_got {X} P [] (suc i) x a e = absurd (cc)
all_got P (y ∷ ys) zero x a e = let same : y ≡ x = cc in subst P same a.0
all_got P (y ∷ ys) (suc i) x a e = all_got P ys i x a.1 e

pub chosen_can_go : (P : Candidate → Type 0) (draw : ℕ) (best : List Candidate) (c : Candidate) → AllByRecursion P best →
    Some c ≡ chosen draw best → P c
chosen_can_go P draw [] c a e = absurd (cc)
chosen_can_go P draw (b ∷ bs) c a e = all_got P (b ∷ bs) (draw % length (b ∷ bs)) c a (sym e)

-- one round
pub record Round (p : Problem) (w : Weight) (plan : List (List ℕ)) (draw next_one i : ℕ) (c : Candidate) : Type 0 where
  pub can_go : CanGo p plan c
  pub same :
      grown p w plan (draws_behind draw (calls p - i))
      ≡ grown p w (with_call plan c.call c.tour c.position) (draws_behind next_one (calls p - (i + 1)))

pub round : (p : Problem) (w : Weight) (plan : List (List ℕ)) (draw next_one i : ℕ) (best : List Candidate) (c : Candidate) →
    i < calls p → next_one ≡ next_draw draw → best ≡ take 3 (ranked p w plan) → Some c ≡ chosen next_one best →
    Round p w plan draw next_one i c
round p w plan draw next_one i best c below drawn is picked =
    let more : calls p - i ≡ suc (calls p - (i + 1)) = omega arith in
    let left = draws_behind (next_draw draw) (calls p - (i + 1)) in
    let got : chosen (next_draw draw) (take 3 (ranked p w plan)) ≡ Some c =
    ap (λ n. chosen n (take 3 (ranked p w plan))) (sym drawn) ∙ ap (chosen next_one) (sym is) ∙ sym picked in
    record {
      can_go = chosen_can_go (CanGo p plan) next_one best c
          (subst (AllByRecursion (CanGo p plan)) (sym is) (all_taken (CanGo p plan) 3 (ranked p w plan) (all_ranked p w plan))) picked;
      same =
          ap (λ n. grown p w plan (draws_behind draw n)) more
          ∙ ap (λ (o : Option Candidate). elim o [
            | None ↦ plan
            | Some d ↦ grown p w (with_call plan d.call d.tour d.position) left
          ]) got
          ∙ ap (λ n. grown p w (with_call plan c.call c.tour c.position) (draws_behind n (calls p - (i + 1)))) (sym drawn);
    }

pub stops : (p : Problem) (w : Weight) (plan : List (List ℕ)) (draw i : ℕ) (best : List Candidate) → i < calls p →
    best ≡ take 3 (ranked p w plan) → length best ≡ 0 → grown p w plan (draws_behind draw (calls p - i)) ≡ plan
stops p w plan draw i best below is none =
    let more : calls p - i ≡ suc (calls p - (i + 1)) = omega arith in
    let got : chosen (next_draw draw) (take 3 (ranked p w plan)) ≡ None =
    ap (chosen (next_draw draw)) (sym is ∙ empty best none) in
    ap (λ n. grown p w plan (draws_behind draw n)) more
    ∙ ap (λ (o : Option Candidate). elim o [
      | None ↦ plan
      | Some d ↦ grown p w (with_call plan d.call d.tour d.position) (draws_behind (next_draw draw) (calls p - (i + 1)))
    ]) got
  where
    empty : (xs : List Candidate) → length xs ≡ 0 → xs ≡ []
    empty [] h = refl
    empty (x ∷ xs) h = absurd (omega arith)

pub no_more : (p : Problem) (w : Weight) (plan : List (List ℕ)) (draw i : ℕ) → calls p ≤ i →
    grown p w plan (draws_behind draw (calls p - i)) ≡ plan
no_more p w plan draw i h =
    let none : calls p - i ≡ 0 = omega arith in ap (λ n. grown p w plan (draws_behind draw n)) none

pub no_tours : (p : Problem) → IsPlan p []
unfolding IsDistinct
no_tours p = record { members = omega arith; feasible = tt; disjoint = tt }
