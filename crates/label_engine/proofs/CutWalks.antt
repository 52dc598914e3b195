-- The states of a relaxation's fronts are those of its relaxed fronts.
use Rattle.std.proofs.Common.{◌≡◌, ℕ, ⊎_elim, false, eqb, List, [], ◌∷◌, filter, None, Some, refl, sym, ap, ◌∙◌, subst, arith}
use Rattle.std.specs.List.{AllByRecursion, IsDistinct}
use Rattle.std.specs.Option.{option_and_then, IsSome, is_some}
use Rattle.std.proofs.lemmas.Bool.{cases_Bool, cond-true, cond-false, or_parts, or_from, eqb-false, ne_eqb}
use Rattle.std.proofs.lemmas.Option.{none-some}
use Rattle.std.proofs.lemmas.Map.Keys.{IsDistinct-cons, IsDistinct-tail}
use Rattle.bit_sets.specs.NumberSet.{member, inserted}
use Rattle.bit_sets.specs.NumberSetLaws.{member-inserted}
use Rattle.label_core.specs.Critical.{critical_after}
use Rattle.label_core.specs.CriticalLaws.{marks}
use Rattle.label_engine.specs.Front.{State, IsCallOf, state_after, front_state, IsFront, IsFrontState}
use Rattle.label_engine.specs.Cut.{CutValue, cut_rules, mark_of, at_start, cut_moves, IsBounded}
use Rattle.label_engine.proofs.CutFronts.{visited, Along, along, made, some_through}
use Rattle.orienteering.specs.Instance.{Problem, calls, IsCall}
use Rattle.orienteering.specs.Walk.{Relaxation, IsRelaxedFront}

-- none of the numbers is held
abbrev pub NoneHeld : List ℕ → List ℕ → Type 0
NoneHeld held xs = AllByRecursion (λ x. member x held ≡ false) xs

none_held_split : (held : List ℕ) (j : ℕ) (xs : List ℕ) → NoneHeld (inserted j held) xs → NoneHeld held xs × AllByRecursion (λ x. eqb j x ≡ false) xs
none_held_split held j [] h = (tt, tt)
none_held_split held j (x ∷ xs) h =
    let parts = or_parts (eqb x j) (member x held) (sym (member-inserted j held x) ∙ h.0) in
    let rest = none_held_split held j xs h.1 in
    let other : eqb j x ≡ false = ne_eqb j x (λ e. eqb-false x j parts.0 (sym e)) in
    ((parts.1, rest.0), (other, rest.1))

none_held_joined : (held : List ℕ) (j : ℕ) (xs : List ℕ) → NoneHeld held xs → AllByRecursion (λ x. eqb j x ≡ false) xs → NoneHeld (inserted j held) xs
none_held_joined held j [] h k = tt
none_held_joined held j (x ∷ xs) h k =
    let other : eqb x j ≡ false = ne_eqb x j (λ e. eqb-false j x k.0 (sym e)) in
    (member-inserted j held x ∙ or_from (eqb x j) (member x held) other h.0, none_held_joined held j xs h.1 k.1)

distinct_head : (x : ℕ) (xs : List ℕ) → IsDistinct eqb (x ∷ xs) → AllByRecursion (λ y. eqb x y ≡ false) xs
unfolding IsDistinct
distinct_head x xs h = h.0

-- critical calls of a list, each once and none held
pub record AreFresh (r : Relaxation) (held js : List ℕ) : Type 0 where
  pub none_held : NoneHeld held (filter r.critical js)
  pub once : IsDistinct eqb (filter r.critical js)

distinct_none : IsDistinct eqb []
unfolding IsDistinct
distinct_none = tt

pub fresh_from_visited : (r : Relaxation) (held js : List ℕ) → IsSome (visited r held js) → AreFresh r held js
fresh_from_visited r held [] h = record { none_held = tt; once = distinct_none }
fresh_from_visited r held (j ∷ js) h =
    ⊎_elim
    (λ critical.
    let mark : mark_of r j ≡ Some j = cond-true _ (Some j) None critical in
    let q = some_through (λ l. visited r l js) (critical_after held (mark_of r j)) h in
    let m = marks held j q.0 (ap (critical_after held) (sym mark) ∙ q.1) in
    let rest = fresh_from_visited r (inserted j held) js (subst (λ l. IsSome (visited r l js)) (sym m.added) q.2) in
    let split = none_held_split held j (filter r.critical js) rest.none_held in
    let kept : filter r.critical (j ∷ js) ≡ j ∷ filter r.critical js = cond-true _ _ _ critical in
    record {
      none_held = subst (NoneHeld held) (sym kept) (m.free, split.0);
      once = subst (IsDistinct eqb) (sym kept) (IsDistinct-cons eqb j (filter r.critical js) split.1 rest.once);
    })
    (λ not_critical.
    let mark : mark_of r j ≡ None = cond-false _ (Some j) None not_critical in
    let q = subst (λ k. IsSome (option_and_then (λ l. visited r l js) (critical_after held k))) mark h in
    let rest = fresh_from_visited r held js q in
    let kept : filter r.critical (j ∷ js) ≡ filter r.critical js = cond-false _ _ _ not_critical in
    record { none_held = subst (NoneHeld held) (sym kept) rest.none_held; once = subst (IsDistinct eqb) (sym kept) rest.once })
    (cases_Bool (r.critical j))

pub visited_from_fresh : (r : Relaxation) (held js : List ℕ) → AreFresh r held js → IsSome (visited r held js)
visited_from_fresh r held [] h = refl
visited_from_fresh r held (j ∷ js) h =
    ⊎_elim
    (λ critical.
    let mark : mark_of r j ≡ Some j = cond-true _ (Some j) None critical in
    let kept : filter r.critical (j ∷ js) ≡ j ∷ filter r.critical js = cond-true _ _ _ critical in
    let held_parts : NoneHeld held (j ∷ filter r.critical js) = subst (NoneHeld held) kept h.none_held in
    let once = subst (IsDistinct eqb) kept h.once in
    let added : critical_after held (mark_of r j) ≡ Some (inserted j held) = ap (critical_after held) mark ∙ cond-false (member j held) None (Some (inserted j held)) held_parts.0 in
    let rest = visited_from_fresh r (inserted j held) js (record {
      none_held = none_held_joined held j (filter r.critical js) held_parts.1 (distinct_head j (filter r.critical js) once);
      once = IsDistinct-tail eqb j (filter r.critical js) once;
    }) in
    subst (λ o. IsSome (option_and_then (λ l. visited r l js) o)) (sym added) rest)
    (λ not_critical.
    let mark : mark_of r j ≡ None = cond-false _ (Some j) None not_critical in
    let kept : filter r.critical (j ∷ js) ≡ filter r.critical js = cond-false _ _ _ not_critical in
    let rest = visited_from_fresh r held js (record { none_held = subst (NoneHeld held) kept h.none_held; once = subst (IsDistinct eqb) kept h.once }) in
    subst (λ k. IsSome (option_and_then (λ l. visited r l js) (critical_after held k))) (sym mark) rest)
    (cases_Bool (r.critical j))

nothing_held : (xs : List ℕ) → NoneHeld [] xs
nothing_held [] = tt
nothing_held (x ∷ xs) = (refl, nothing_held xs)

module _ (p : Problem) (r : Relaxation) where
  -- before the first call
  abbrev pub origin : State CutValue
  origin = record { hops = 0; call = 0; value = at_start p }

  -- a front goes on from the origin
  front_from_origin : (j : ℕ) (js : List ℕ) → front_state cut_rules (cut_moves p r) (j ∷ js) ≡ state_after cut_rules (cut_moves p r) origin (j ∷ js)
  front_from_origin j js = refl

  calls_of : (js : List ℕ) → AllByRecursion (IsCallOf (cut_moves p r)) js → AllByRecursion (IsCall p) js
  calls_of [] h = tt
  calls_of (j ∷ js) h = ((h.0.low, h.0.high), calls_of js h.1)

  of_calls : (js : List ℕ) → AllByRecursion (IsCall p) js → AllByRecursion (IsCallOf (cut_moves p r)) js
  of_calls [] h = tt
  of_calls (j ∷ js) h = (record { low = h.0.0; high = h.0.1 }, of_calls js h.1)

  module _ (step : ℕ) (bounded : IsBounded p r step) where
    -- each state of a front is that of a relaxed front
    pub relaxed_from_front : (s : State CutValue) (front : List ℕ) → IsFront cut_rules (cut_moves p r) (calls p) front s → IsRelaxedFront p r front × Along p r origin front s
    relaxed_from_front s [] f = absurd (none-some s f.state)
    relaxed_from_front s (j ∷ js) f =
        let a = along p r step bounded origin (j ∷ js) s (omega arith) (omega (arith, f.short)) f.state in (
          record {
            some_call = λ e. cc;
            short = f.short;
            calls = calls_of (j ∷ js) f.calls;
            moving = a.moving;
            once = (fresh_from_visited r [] (j ∷ js) (ap (λ o. is_some o) a.held)).once;
            open_arcs = a.open_arcs;
            in_time = ap (λ o. is_some o) a.clock;
          },
          a,
        )

    -- each relaxed front has a state
    pub front_made : (front : List ℕ) → IsRelaxedFront p r front → (s : State CutValue) × IsFront cut_rules (cut_moves p r) (calls p) front s × Along p r origin front s
    front_made [] f = absurd (f.some_call refl)
    front_made (j ∷ js) f =
        let m = made p r step bounded origin (j ∷ js) f.moving f.open_arcs f.in_time (visited_from_fresh r [] (j ∷ js) (record { none_held = nothing_held _; once = f.once })) in
        (m.0, record { short = f.short; calls = of_calls (j ∷ js) f.calls; state = m.1 }, along p r step bounded origin (j ∷ js) m.0 (omega arith) (omega (arith, f.short)) m.1)

    pub front_from_relaxed : (front : List ℕ) → IsRelaxedFront p r front → (s : State CutValue) × IsFrontState cut_rules (cut_moves p r) (calls p) s × Along p r origin front s
    front_from_relaxed front f = let m = front_made front f in (m.0, (front, m.1), m.2)
