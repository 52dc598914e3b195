-- A plan with one call more: when it is a plan, and what it travels.
use Rattle.std.proofs.Common.{◌≡◌, ℕ, zero, suc, ◌+◌, ◌*◌, ◌<◌, ◌≤◌, Bool, true, false, ◌||◌, ◌&&◌, cond, nat_eq, nat_lt, IsSome, List, [], ◌∷◌, ◌++◌, length, get_or, take, drop, refl, ap, sym, subst, ◌∙◌, append_assoc, take-append-drop, inl, inr, arith}
use Rattle.std.proofs.lemmas.Bool.{cases_lt}
use Rattle.std.proofs.lemmas.Bool.Decides.{nat_tests}
use Rattle.std.proofs.lemmas.List.Folds.{list_any-append}
use Rattle.std.proofs.lemmas.List.Sums.{sum_by-cons}
use Rattle.std.proofs.lemmas.Map.Keys.{IsDistinct-head, IsDistinct-tail, IsDistinct-cons}
use Rattle.std.specs.List.{AllByRecursion, IsDistinct, concat, insert, filter_map, cons_option, flat_map, range_with_len}
use Rattle.std.specs.Option.{option_and_then}
use Rattle.std.specs.declared.option.Option.{Option}
use Rattle.std.specs.declared.option.Option.TheVariants.{None, Some}
use Rattle.orienteering.specs.Instance.{Problem, site, IsCall}
use Rattle.orienteering.specs.Tour.{IsFeasibleTour, IsPlan, stops, clock_along, tour_time, plan_time}
use Rattle.insert_heur.specs.Places.{tour_at, with_call, spent_at}
use Rattle.orienteering.specs.PlanCheck.{is_one_of, plan_refusal}
use Rattle.orienteering.specs.declared.PlanRefusal.{PlanRefusal}
use Rattle.orienteering.proofs.PlanCheck.{plan_right, plans_are_accepted}
use Rattle.insert_heur.specs.Candidates.{is_plan, gain_of, candidate_at, at_tour, at_call}
use Rattle.insert_heur.specs.declared.candidates.Weight.{Weight}
use Rattle.std.proofs.lemmas.Int.{ints}
use Rattle.std.specs.Prelude.{ℤ, pos, ◌-ℤ◌, int_lt}
use Rattle.insert_heur.specs.Walk.{time_of}

-- the test and the fact
pub is_plan_true : (p : Problem) (plan : List (List ℕ)) → IsPlan p plan → is_plan p plan ≡ true
is_plan_true p plan h =
    ap (λ (o : Option PlanRefusal). elim o [ None ↦ true | Some why ↦ false ]) ((plans_are_accepted p plan).1 h)

pub is_plan_right : (p : Problem) (plan : List (List ℕ)) → is_plan p plan ≡ true → IsPlan p plan
is_plan_right p plan e =
    elim (plan_refusal p plan) as (λ (o : Option PlanRefusal). plan_refusal p plan ≡ o →
    ◌≡◌ {A = Bool} (elim o [ None ↦ true | Some why ↦ false ]) true → IsPlan p plan) [
      | None ↦ λ same h. plan_right p plan same
      | Some why ↦ λ same h. absurd (cc)
    ] refl e

pub is_plan_false : (p : Problem) (plan : List (List ℕ)) → (IsPlan p plan → ⊥) → is_plan p plan ≡ false
is_plan_false p plan h =
    elim (is_plan p plan) as (λ b. is_plan p plan ≡ b → is_plan p plan ≡ false) [
      | true ↦ λ e. absurd (h (is_plan_right p plan e))
      | false ↦ λ e. e
    ] refl

-- the call stands somewhere among the others
pub record Opened (plan next : List (List ℕ)) (call : ℕ) : Type 0 where
  pub front : List ℕ
  pub back : List ℕ
  pub before : concat plan ≡ front ++ back
  pub after : concat next ≡ front ++ call ∷ back

pub opened : (plan : List (List ℕ)) (call tour position : ℕ) → Opened plan (with_call plan call tour position) call
opened [] call tour position =
    record {
      front = take position [];
      back = drop position [];
      before = sym (take-append-drop position []);
      after = append_assoc (take position []) (call ∷ drop position []) []
          ∙ ap (λ xs. take position [] ++ call ∷ xs) (none position);
    }
  where
    none : (n : ℕ) → drop {A = ℕ} n [] ++ [] ≡ drop {A = ℕ} n []
    none zero = refl
    none (suc n) = refl
opened (t ∷ ts) call zero position =
    record {
      front = take position t;
      back = drop position t ++ concat ts;
      before = ap (λ xs. xs ++ concat ts) (sym (take-append-drop position t)) ∙ append_assoc (take position t) (drop position t) (concat ts);
      after = append_assoc (take position t) (call ∷ drop position t) (concat ts);
    }
opened (t ∷ ts) call (suc tour) position =
    let rest = opened ts call tour position in
    record {
      front = t ++ rest.front;
      back = rest.back;
      before = ap (λ xs. t ++ xs) rest.before ∙ sym (append_assoc t rest.front rest.back);
      after = ap (λ xs. t ++ xs) rest.after ∙ sym (append_assoc t rest.front (call ∷ rest.back));
    }

both_false : (a b : Bool) → (a || b) ≡ false → (a ≡ false) × (b ≡ false)
both_false true b h = absurd (cc)
both_false false b h = (refl, h)

turned : (x y : ℕ) → nat_eq y x ≡ false → nat_eq x y ≡ false
turned x y h = grind (arith, nat_tests)

pub differ_all : (x : ℕ) (ys : List ℕ) → is_one_of ys x ≡ false → AllByRecursion (λ y. nat_eq x y ≡ false) ys
differ_all x [] h = tt
differ_all x (y ∷ ys) h = let both = both_false (nat_eq x y) (is_one_of ys x) h in (both.0, differ_all x ys both.1)

is_new : (x : ℕ) (ys : List ℕ) → AllByRecursion (λ y. nat_eq x y ≡ false) ys → is_one_of ys x ≡ false
is_new x [] a = refl
is_new x (y ∷ ys) a = ap (λ b. b || is_one_of ys x) a.0 ∙ is_new x ys a.1

all_with : {X : Type 0} (P : X → Type 0) (front : List X) (x : X) (back : List X) → AllByRecursion P (front ++ back) → P x →
    AllByRecursion P (front ++ x ∷ back)
all_with P [] x back a h = (h, a)
all_with P (y ∷ ys) x back a h = (a.0, all_with P ys x back a.1 h)

all_without : {X : Type 0} (P : X → Type 0) (front : List X) (x : X) (back : List X) → AllByRecursion P (front ++ x ∷ back) →
    P x × AllByRecursion P (front ++ back)
all_without P [] x back a = (a.0, a.1)
all_without P (y ∷ ys) x back a = let rest = all_without P ys x back a.1 in (rest.0, (a.0, rest.1))

distinct_with : (front : List ℕ) (x : ℕ) (back : List ℕ) → IsDistinct nat_eq (front ++ back) →
    is_one_of (front ++ back) x ≡ false → IsDistinct nat_eq (front ++ x ∷ back)
distinct_with [] x back d n = IsDistinct-cons nat_eq x back (differ_all x back n) d
distinct_with (y ∷ ys) x back d n =
    let both = both_false (nat_eq x y) (is_one_of (ys ++ back) x) n in
    IsDistinct-cons nat_eq y (ys ++ x ∷ back)
    (all_with (λ z. nat_eq y z ≡ false) ys x back (IsDistinct-head nat_eq y (ys ++ back) d) (turned y x both.0))
    (distinct_with ys x back (IsDistinct-tail nat_eq y (ys ++ back) d) both.1)

pub new_in : (front : List ℕ) (x : ℕ) (back : List ℕ) → IsDistinct nat_eq (front ++ x ∷ back) →
    is_one_of (front ++ back) x ≡ false
new_in [] x back d = is_new x back (IsDistinct-head nat_eq x back d)
new_in (y ∷ ys) x back d =
    let apart = all_without (λ z. nat_eq y z ≡ false) ys x back (IsDistinct-head nat_eq y (ys ++ x ∷ back) d) in
    ap (λ b. b || is_one_of (ys ++ back) x) (turned x y apart.0)
    ∙ new_in ys x back (IsDistinct-tail nat_eq y (ys ++ x ∷ back) d)

module _ (P : List ℕ → Type 0) where
  feasible_with : (plan : List (List ℕ)) (call tour position : ℕ) → AllByRecursion P plan →
      P (insert (tour_at plan tour) position call) → AllByRecursion P (with_call plan call tour position)
  feasible_with [] call tour position a h = (h, tt)
  feasible_with (t ∷ ts) call zero position a h = (h, a.1)
  feasible_with (t ∷ ts) call (suc tour) position a h = (a.0, feasible_with ts call tour position a.1 h)

  feasible_within : (plan : List (List ℕ)) (call tour position : ℕ) → AllByRecursion P (with_call plan call tour position) →
      P (insert (tour_at plan tour) position call)
  feasible_within [] call tour position a = a.0
  feasible_within (t ∷ ts) call zero position a = a.0
  feasible_within (t ∷ ts) call (suc tour) position a = feasible_within ts call tour position a.1

length_inside : (plan : List (List ℕ)) (call tour position : ℕ) → tour < length plan →
    length (with_call plan call tour position) ≡ length plan
length_inside [] call tour position h = absurd (omega arith)
length_inside (t ∷ ts) call zero position h = refl
length_inside (t ∷ ts) call (suc tour) position h = ap suc (length_inside ts call tour position (omega arith))

length_behind : (plan : List (List ℕ)) (call tour position : ℕ) → length plan ≤ tour →
    length (with_call plan call tour position) ≡ suc (length plan)
length_behind [] call tour position h = refl
length_behind (t ∷ ts) call zero position h = absurd (omega arith)
length_behind (t ∷ ts) call (suc tour) position h = ap suc (length_behind ts call tour position (omega arith))

-- the other tours keep their travel
pub time_grows : (p : Problem) (plan : List (List ℕ)) (call tour position : ℕ) →
    plan_time p (with_call plan call tour position) + spent_at p plan tour
    ≡ plan_time p plan + tour_time p (insert (tour_at plan tour) position call)
time_grows p [] call tour position =
    omega (arith, sum_by-cons (tour_time p) (insert [] position call) [])
time_grows p (t ∷ ts) call zero position =
    omega (arith, sum_by-cons (tour_time p) t ts, sum_by-cons (tour_time p) (insert t position call) ts)
time_grows p (t ∷ ts) call (suc tour) position =
    omega (
      arith,
      sum_by-cons (tour_time p) t ts,
      sum_by-cons (tour_time p) t (with_call ts call tour position),
      time_grows p ts call tour position,
    )

-- a tour of a plan, or none of its calls, without the call
record IsOwn (p : Problem) (call : ℕ) (tour : List ℕ) : Type 0 where
  calls : AllByRecursion (IsCall p) tour
  distinct : IsDistinct nat_eq tour
  new : is_one_of tour call ≡ false

own : (p : Problem) (call : ℕ) (plan : List (List ℕ)) (tour : ℕ) → AllByRecursion (IsFeasibleTour p) plan →
    is_one_of (concat plan) call ≡ false → IsOwn p call (tour_at plan tour)
unfolding IsDistinct
own p call [] tour a n = record { calls = tt; distinct = tt; new = refl }
own p call (t ∷ ts) zero a n =
    record {
      calls = a.0.calls;
      distinct = a.0.distinct;
      new = (both_false (is_one_of t call) (is_one_of (concat ts) call) (sym (list_any-append (nat_eq call) t (concat ts)) ∙ n)).0;
    }
own p call (t ∷ ts) (suc tour) a n =
    own p call ts tour a.1
    (both_false (is_one_of t call) (is_one_of (concat ts) call) (sym (list_any-append (nat_eq call) t (concat ts)) ∙ n)).1

not_empty : (front : List ℕ) (x : ℕ) (back : List ℕ) → front ++ x ∷ back ≡ [] → ⊥
not_empty [] x back h = cc
not_empty (y ∷ ys) x back h = cc

in_time : (p : Problem) (tour : List ℕ) (time : ℕ) → time_of p tour ≡ Some time →
    IsSome (clock_along p (site p 0).opening 0 (stops p tour)) × (tour_time p tour ≡ time)
in_time p tour time e =
    elim (clock_along p (site p 0).opening 0 (stops p tour)) as (λ (o : Option ℕ).
    ◌≡◌ {A = Option ℕ} (option_and_then (λ d. Some (tour_time p tour)) o) (Some time) →
    IsSome o × (tour_time p tour ≡ time)) [
      | None ↦ λ h. absurd (cc)
      | Some d ↦ λ h. (refl, cc)
    ] e

late : (p : Problem) (tour : List ℕ) → time_of p tour ≡ None →
    IsSome (clock_along p (site p 0).opening 0 (stops p tour)) → ⊥
late p tour e =
    elim (clock_along p (site p 0).opening 0 (stops p tour)) as (λ (o : Option ℕ).
    ◌≡◌ {A = Option ℕ} (option_and_then (λ d. Some (tour_time p tour)) o) None → IsSome o → ⊥) [
      | None ↦ λ h s. cc
      | Some d ↦ λ h s. cc
    ] e

-- a late tour is in no plan
pub late_is_no_plan : (p : Problem) (plan : List (List ℕ)) (call tour position : ℕ) →
    time_of p (insert (tour_at plan tour) position call) ≡ None → IsPlan p (with_call plan call tour position) → ⊥
late_is_no_plan p plan call tour position e h =
    late p (insert (tour_at plan tour) position call) e
    (feasible_within (IsFeasibleTour p) plan call tour position h.feasible).in_time

pub late_is_none : (p : Problem) (plan : List (List ℕ)) (call tour position : ℕ) →
    time_of p (insert (tour_at plan tour) position call) ≡ None → is_plan p (with_call plan call tour position) ≡ false
late_is_none p plan call tour position e =
    is_plan_false p (with_call plan call tour position) (late_is_no_plan p plan call tour position e)

-- the other tours' travel, and that of the changed tour
pub time_beside : (p : Problem) (plan : List (List ℕ)) (call tour position others time : ℕ) →
    others + spent_at p plan tour ≡ plan_time p plan → time_of p (insert (tour_at plan tour) position call) ≡ Some time →
    plan_time p (with_call plan call tour position) ≡ others + time
time_beside p plan call tour position others time beside e =
    omega (arith, beside, time_grows p plan call tour position, (in_time p (insert (tour_at plan tour) position call) time e).1)

pub full_is_none : (p : Problem) (plan : List (List ℕ)) (call tour position : ℕ) → length plan ≤ tour → p.team ≤ length plan →
    is_plan p (with_call plan call tour position) ≡ false
full_is_none p plan call tour position behind full =
    is_plan_false p (with_call plan call tour position)
    (λ h. absurd (omega (arith, h.members, length_behind plan call tour position behind)))

-- what a call that is put in makes of a plan
pub record Grows (p : Problem) (plan next : List (List ℕ)) (spent time : ℕ) : Type 0 where
  pub valid : is_plan p next ≡ true
  pub travel : plan_time p next + spent ≡ plan_time p plan + time

pub grows : (p : Problem) (plan : List (List ℕ)) (call tour position : ℕ) → IsPlan p plan → IsCall p call →
    is_one_of (concat plan) call ≡ false → tour ≤ length plan → (length plan ≤ tour → p.team ≤ length plan → ⊥) →
    (time : ℕ) → time_of p (insert (tour_at plan tour) position call) ≡ Some time →
    Grows p plan (with_call plan call tour position) (spent_at p plan tour) time
grows p plan call tour position h is_call unvisited there room time e =
    let next = with_call plan call tour position in
    let t = tour_at plan tour in
    let o = opened plan call tour position in
    let mine = own p call plan tour h.feasible unvisited in
    let timed = in_time p (insert t position call) time e in
    let changed : IsFeasibleTour p (insert t position call) = record {
      some_call = not_empty (take position t) call (drop position t);
      calls = all_with (IsCall p) (take position t) call (drop position t)
          (subst (AllByRecursion (IsCall p)) (sym (take-append-drop position t)) mine.calls) is_call;
      distinct = distinct_with (take position t) call (drop position t)
          (subst (IsDistinct nat_eq) (sym (take-append-drop position t)) mine.distinct)
          (ap (λ xs. is_one_of xs call) (take-append-drop position t) ∙ mine.new);
      in_time = timed.0;
    } in
    let few : length next ≤ p.team = elim (cases_lt tour (length plan)) [
      | inl inside ↦ omega (arith, length_inside plan call tour position inside, h.members)
      | inr behind ↦ elim (cases_lt (length plan) p.team) [
        | inl less ↦ omega (arith, length_behind plan call tour position behind)
        | inr full ↦ absurd (room behind full)
      ]
    ] in
    record {
      valid = is_plan_true p next (record {
        members = few;
        feasible = feasible_with (IsFeasibleTour p) plan call tour position h.feasible changed;
        disjoint = subst (IsDistinct nat_eq) (sym o.after)
            (distinct_with o.front call o.back (subst (IsDistinct nat_eq) o.before h.disjoint)
            (ap (λ xs. is_one_of xs call) (sym o.before) ∙ unvisited));
      });
      travel = time_grows p plan call tour position ∙ ap (λ n. plan_time p plan + n) timed.1;
    }

-- the travel of one tour of a plan
pub spent_inside : (p : Problem) (plan : List (List ℕ)) (tour : ℕ) (d : List ℕ) → tour < length plan →
    spent_at p plan tour ≡ tour_time p (get_or plan tour d)
spent_inside p [] tour d h = absurd (omega arith)
spent_inside p (t ∷ ts) zero d h = refl
spent_inside p (t ∷ ts) (suc tour) d h = spent_inside p ts tour d (omega arith)

pub spent_behind : (p : Problem) (plan : List (List ℕ)) (tour : ℕ) → length plan ≤ tour → spent_at p plan tour ≡ 0
spent_behind p [] tour h = refl
spent_behind p (t ∷ ts) zero h = absurd (omega arith)
spent_behind p (t ∷ ts) (suc tour) h = spent_behind p ts tour (omega arith)

-- the gain by one tour's travel is the gain by the plan's
pub same_gain : (worth beta old new spent time : ℕ) → new + spent ≡ old + time →
    pos (worth + beta * spent) -ℤ pos (beta * time) ≡ pos (worth + beta * old) -ℤ pos (beta * new)
same_gain worth beta old new spent time e =
    let scaled : beta * (new + spent) ≡ beta * (old + time) = ap (λ n. beta * n) e in
    omega (arith, ints, scaled)

-- a candidate where the plan stays a plan, and none where it doesn't
pub candidate_none : (p : Problem) (w : Weight) (plan : List (List ℕ)) (call tour position : ℕ) →
    is_plan p (with_call plan call tour position) ≡ false → candidate_at p w plan call tour position ≡ None
candidate_none p w plan call tour position e =
    let next = with_call plan call tour position in
    let gain = gain_of p w plan call next in
    ap (λ b. cond (b && int_lt (pos 0) gain) (Some (record { gain = gain; call = call; tour = tour; position = position })) None) e

pub candidate_by_gain : (p : Problem) (w : Weight) (plan : List (List ℕ)) (call tour position spent time : ℕ) (gain : ℤ) →
    Grows p plan (with_call plan call tour position) spent time →
    gain ≡ pos (w.alpha * (site p call).score + w.beta * spent) -ℤ pos (w.beta * time) →
    candidate_at p w plan call tour position
    ≡ cond (int_lt (pos 0) gain) (Some (record { gain = gain; call = call; tour = tour; position = position })) None
candidate_by_gain p w plan call tour position spent time gain g is =
    let next = with_call plan call tour position in
    let own_gain = gain_of p w plan call next in
    let same : own_gain ≡ gain = sym (is ∙ same_gain (w.alpha * (site p call).score) w.beta (plan_time p plan) (plan_time p next) spent time g.travel) in
    ap (λ b. cond (b && int_lt (pos 0) own_gain) (Some (record { gain = own_gain; call = call; tour = tour; position = position })) None) g.valid
    ∙ ap (λ (n : ℤ). cond (int_lt (pos 0) n) (Some (record { gain = n; call = call; tour = tour; position = position })) None) same

has_room_false : (p : Problem) (plan : List (List ℕ)) (tour : ℕ) → (nat_lt tour (length plan) || nat_lt (length plan) p.team) ≡ false →
    (length plan ≤ tour) × (p.team ≤ length plan)
has_room_false p plan tour h = none_less tour (length plan) p.team h
  where
    none_less : (a b c : ℕ) → (nat_lt a b || nat_lt b c) ≡ false → (b ≤ a) × (c ≤ b)
    none_less a b c e = (grind (arith, nat_tests), grind (arith, nat_tests))

has_room_true : (a b c : ℕ) → (nat_lt a b || nat_lt b c) ≡ true → b ≤ a → c ≤ b → ⊥
has_room_true a b c e h k = absurd (some_less a b c e h k)
  where
    some_less : (x y z : ℕ) → (nat_lt x y || nat_lt y z) ≡ true → y ≤ x → z ≤ y → ⊥
    some_less x y z f g i = grind (arith, nat_tests)

pub no_room : (p : Problem) (w : Weight) (plan : List (List ℕ)) (call tour position : ℕ) →
    (nat_lt tour (length plan) || nat_lt (length plan) p.team) ≡ false → candidate_at p w plan call tour position ≡ None
no_room p w plan call tour position h =
    let full = has_room_false p plan tour h in
    candidate_none p w plan call tour position (full_is_none p plan call tour position full.0 full.1)

pub too_late : (p : Problem) (w : Weight) (plan : List (List ℕ)) (call tour position : ℕ) →
    time_of p (insert (tour_at plan tour) position call) ≡ None → candidate_at p w plan call tour position ≡ None
too_late p w plan call tour position h =
    candidate_none p w plan call tour position (late_is_none p plan call tour position h)

pub in_time_by_gain : (p : Problem) (w : Weight) (plan : List (List ℕ)) (call tour position : ℕ) → IsPlan p plan → IsCall p call →
    is_one_of (concat plan) call ≡ false → tour ≤ length plan →
    (nat_lt tour (length plan) || nat_lt (length plan) p.team) ≡ true →
    (time spent : ℕ) (gain : ℤ) → time_of p (insert (tour_at plan tour) position call) ≡ Some time → spent ≡ spent_at p plan tour →
    gain ≡ pos (w.alpha * (site p call).score + w.beta * spent) -ℤ pos (w.beta * time) →
    candidate_at p w plan call tour position
    ≡ cond (int_lt (pos 0) gain) (Some (record { gain = gain; call = call; tour = tour; position = position })) None
in_time_by_gain p w plan call tour position h is_call unvisited there room time spent gain e same is =
    candidate_by_gain p w plan call tour position spent time gain
    (subst (λ n. Grows p plan (with_call plan call tour position) n time) (sym same)
    (grows p plan call tour position h is_call unvisited there (λ a b. has_room_true tour (length plan) p.team room a b) time e)) is

-- a call that the plan visits has no candidate
visited_at : (p : Problem) (w : Weight) (plan : List (List ℕ)) (call : ℕ) → is_one_of (concat plan) call ≡ true →
    (tour position : ℕ) → candidate_at p w plan call tour position ≡ None
visited_at p w plan call h tour position =
    let o = opened plan call tour position in
    candidate_none p w plan call tour position
    (is_plan_false p (with_call plan call tour position)
    (λ valid.
    let new = new_in o.front call o.back (subst (IsDistinct nat_eq) o.after valid.disjoint) in
    let old = ap (λ xs. is_one_of xs call) (sym o.before) ∙ h in
    absurd (cc)))

none_of : {X : Type 0} (f : ℕ → Option X) → ((k : ℕ) → f k ≡ None) → (ks : List ℕ) → filter_map f ks ≡ []
none_of f h [] = refl
none_of {X} f h (k ∷ ks) = ap (λ (o : Option X). cons_option o (filter_map f ks)) (h k) ∙ none_of f h ks

none_of_all : {X : Type 0} (f : ℕ → List X) → ((k : ℕ) → f k ≡ []) → (ks : List ℕ) → flat_map f ks ≡ []
none_of_all f h [] = refl
none_of_all f h (k ∷ ks) = ap (λ xs. xs ++ flat_map f ks) (h k) ∙ none_of_all f h ks

pub visited_none : (p : Problem) (w : Weight) (plan : List (List ℕ)) (call : ℕ) → is_one_of (concat plan) call ≡ true →
    at_call p w plan call ≡ []
visited_none p w plan call h =
    none_of_all (at_tour p w plan call)
    (λ tour. none_of (candidate_at p w plan call tour) (visited_at p w plan call h tour)
    (range_with_len 0 (length (tour_at plan tour) + 1)))
    (range_with_len 0 (length plan + 1))
