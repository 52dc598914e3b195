-- The uncovered states of a cut's moves are the undominated states of its relaxation.
use Rattle.std.proofs.Common.{◌≡◌, ℕ, zero, suc, ◌+◌, ◌≤◌, ◌<◌, Bool, true, false, ◌&&◌, ◌||◌, nat_eq, List, [], ◌∷◌, length, map, filter, get_or, inl, inr, None, Some, refl, sym, ap, ◌∙◌, subst, arith, ℤ, pos, ◌+ℤ◌, unwrap_or, All}
use Rattle.std.specs.List.{AllByRecursion, list_any, range_with_len}
use Rattle.std.proofs.lemmas.Bool.{cases_Bool, cond-true, cond-false, eqb-true, and_parts, cond_both}
use Rattle.std.proofs.lemmas.Option.{same_Some, none-some}
use Rattle.std.proofs.lemmas.Int.{ints}
use Rattle.bit_sets.specs.NumberSet.{RisesFrom, member}
use Rattle.bit_sets.specs.NumberSetLaws.{member-inserted, rises-inserted, rises_lower, subset_from, subset_antisymmetric}
use Rattle.label_core.specs.Critical.{critical_after}
use Rattle.label_core.specs.CriticalLaws.{marks}
use Rattle.label_engine.specs.Front.{State, front_state, moved, state_after, covers, IsFrontState, IsUncovered}
use Rattle.label_engine.specs.Settled.{HasMoreThan}
use Rattle.label_engine.specs.Cut.{CutValue, cut_rules, mark_of, cut_moves, IsBounded}
use Rattle.label_engine.proofs.Covering.{through, mapped}
use Rattle.label_engine.proofs.CutFronts.{visited, Along}
use Rattle.label_engine.proofs.CutWalks.{origin, relaxed_from_front, front_made}
use Rattle.orienteering.specs.Instance.{Problem, calls, IsCall, all_calls}
use Rattle.orienteering.specs.Walk.{Relaxation, IsRelaxedFront, value_along}
use Rattle.orienteering.specs.Sigma as seen
use Rattle.orienteering.proofs.Members.{IsMember, HasNoRepeat, member_of_filter, source_of_filter, member_of_range, some_passes, one_that_passes, member_of_map, source_of_map, nat_eq_itself}
use Rattle.orienteering.proofs.States.{state_same, no_repeat_from_pairs, pairs_from_no_repeat, each_from_all, member_at}

-- the state of a front as the vocabulary has it
abbrev pub translated : State CutValue → seen.State
translated s = record { hops = s.hops; call = s.call; clock = s.value.a.at; critical = s.value.b.a; value = s.value.b.b.sum }

same_state : (s t : State CutValue) → translated s ≡ translated t → s ≡ t
same_state s t e = λ i. record {
  hops = (e i).hops;
  call = (e i).call;
  value = record { a = record { at = (e i).clock }; b = record { a = (e i).critical; b = record { sum = (e i).value } } };
}

-- ---- the critical calls that are held

or_none : (m c : Bool) → m ≡ (m || (c && false))
or_none true c = refl
or_none false true = refl
or_none false false = refl

added_bits : (n m c a : Bool) → (n ≡ true → c ≡ true) → ((n || m) || (c && a)) ≡ (m || (c && (n || a)))
added_bits true true c a f = refl
added_bits true false c a f = let is : c ≡ true = f refl in ap (λ b. b && true) (sym is)
added_bits false m c a f = refl

kept_bits : (n m c a : Bool) → (n ≡ true → c ≡ false) → (m || (c && a)) ≡ (m || (c && (n || a)))
kept_bits true m c a f = let is : c ≡ false = f refl in ap (λ b. m || (b && a)) is ∙ ap (λ b. m || (b && true)) (sym is)
kept_bits false m c a f = refl

held_members : (r : Relaxation) (held js out : List ℕ) → visited r held js ≡ Some out → (z : ℕ) →
    member z out ≡ (member z held || (r.critical z && list_any (nat_eq z) js))
held_members r held [] out e z = ap (member z) (sym (same_Some held out e)) ∙ or_none (member z held) (r.critical z)
held_members r held (j ∷ js) out e z =
    let q = through (λ h. visited r h js) (critical_after held (mark_of r j)) out e in
    let rest = held_members r q.value js out q.gives z in
    elim (cases_Bool (r.critical j)) [
      | inl critical ↦
          let m = marks held j q.value (ap (critical_after held) (sym (cond-true (r.critical j) (Some j) None critical)) ∙ q.is) in
          rest ∙ ap (λ l. member z l || (r.critical z && list_any (nat_eq z) js)) (sym m.added)
          ∙ ap (λ b. b || (r.critical z && list_any (nat_eq z) js)) (member-inserted j held z)
          ∙ added_bits (nat_eq z j) (member z held) (r.critical z) (list_any (nat_eq z) js) (λ h. ap r.critical (eqb-true z j h) ∙ critical)
      | inr plain ↦
          let same : Some held ≡ Some q.value = ap (critical_after held) (sym (cond-false (r.critical j) (Some j) None plain)) ∙ q.is in
          rest ∙ ap (λ l. member z l || (r.critical z && list_any (nat_eq z) js)) (sym (same_Some held q.value same))
          ∙ kept_bits (nat_eq z j) (member z held) (r.critical z) (list_any (nat_eq z) js) (λ h. ap r.critical (eqb-true z j h) ∙ plain)
    ]

held_rises : (r : Relaxation) (held js out : List ℕ) → RisesFrom 0 held → visited r held js ≡ Some out → RisesFrom 0 out
held_rises r held [] out h e = subst (RisesFrom 0) (same_Some held out e) h
held_rises r held (j ∷ js) out h e =
    let q = through (λ h. visited r h js) (critical_after held (mark_of r j)) out e in
    elim (cases_Bool (r.critical j)) [
      | inl critical ↦
          let m = marks held j q.value (ap (critical_after held) (sym (cond-true (r.critical j) (Some j) None critical)) ∙ q.is) in
          held_rises r q.value js out (subst (RisesFrom 0) m.added (rises-inserted 0 j held (omega arith) h)) q.gives
      | inr plain ↦
          let same : Some held ≡ Some q.value = ap (critical_after held) (sym (cond-false (r.critical j) (Some j) None plain)) ∙ q.is in
          held_rises r q.value js out (subst (RisesFrom 0) (same_Some held q.value same) h) q.gives
    ]

filter_rises : (t : ℕ → Bool) (a n : ℕ) → RisesFrom a (filter t (range_with_len a n))
filter_rises t a zero = tt
filter_rises t a (suc n) =
    cond_both (t a) (a ∷ filter t (range_with_len (a + 1) n)) (filter t (range_with_len (a + 1) n)) (RisesFrom a)
    (λ _. (omega arith, filter_rises t (a + 1) n))
    (λ _. rises_lower (a + 1) a (filter t (range_with_len (a + 1) n)) (omega arith) (filter_rises t (a + 1) n))

member_true : (z : ℕ) (xs : List ℕ) → IsMember z xs → member z xs ≡ true
member_true z xs m = some_passes (nat_eq z) z xs m (nat_eq_itself z)

true_member : (z : ℕ) (xs : List ℕ) → member z xs ≡ true → IsMember z xs
true_member z xs h =
    let f = one_that_passes (nat_eq z) xs h in subst (λ y. IsMember y xs) (sym (eqb-true z f.0 f.2)) f.1

call_of : (p : Problem) (xs : List ℕ) → AllByRecursion (IsCall p) xs → (z : ℕ) → IsMember z xs → IsCall p z
call_of p [] a z m = absurd m
call_of p (x ∷ xs) a z m = elim m [ inl e ↦ subst (IsCall p) (sym e) a.0 | inr n ↦ call_of p xs a.1 z n ]

held_is : (p : Problem) (r : Relaxation) (front out : List ℕ) → AllByRecursion (IsCall p) front → visited r [] front ≡ Some out →
    filter (λ c. r.critical c && list_any (nat_eq c) front) (all_calls (calls p)) ≡ out
held_is p r front out are_calls e =
    let t : ℕ → Bool = λ c. r.critical c && list_any (nat_eq c) front in
    let xs = filter t (all_calls (calls p)) in
    subset_antisymmetric 0 xs out (rises_lower 1 0 xs (omega arith) (filter_rises t 1 (calls p))) (held_rises r [] front out tt e)
    (subset_from xs out (λ z h. held_members r [] front out e z ∙ (source_of_filter t z (all_calls (calls p)) (true_member z xs h)).1))
    (subset_from out xs (λ z h.
    let passes : t z ≡ true = sym (held_members r [] front out e z) ∙ h in
    let c = call_of p front are_calls z (true_member z front (and_parts (r.critical z) (list_any (nat_eq z) front) passes).1) in
    let high : z ≤ calls p = c.1 in
    member_true z xs (member_of_filter t z (all_calls (calls p)) (member_of_range 1 (calls p) z c.0 (omega arith)) passes)))

-- ---- states

module _ (p : Problem) (r : Relaxation) where
  hops_after : (s : State CutValue) (js : List ℕ) (t : State CutValue) → state_after cut_rules (cut_moves p r) s js ≡ Some t →
      s.hops + length js ≡ t.hops
  hops_after s [] t e = let same = ap (λ (u : State CutValue). u.hops) (same_Some s t e) in omega arith
  hops_after s (j ∷ js) t e =
      let q = through (λ u. state_after cut_rules (cut_moves p r) u js) (moved cut_rules (cut_moves p r) s j) t e in
      let m = mapped _ _ q.value q.is in
      let one : s.hops + 1 ≡ q.value.hops = ap (λ (u : State CutValue). u.hops) m.gives in
      let rest = hops_after q.value js t q.gives in
      omega arith

  from_none : (a : ℤ) → pos 0 +ℤ a ≡ a
  from_none a = omega (arith, ints)

  module _ (step : ℕ) (bounded : IsBounded p r step) where
    state_is : (front : List ℕ) (s : State CutValue) → IsRelaxedFront p r front → Along p r (origin p r) front s →
        length front ≡ s.hops → seen.state_of p r front ≡ translated s
    state_is front s f a hops =
        state_same (seen.state_of p r front) (translated s) hops (sym a.call) (ap (λ o. unwrap_or o 0) a.clock)
        (held_is p r front s.value.b.a f.calls a.held) (sym (a.sum ∙ from_none (value_along p r 0 front)))

    hops_of : (s : State CutValue) (front : List ℕ) → front_state cut_rules (cut_moves p r) front ≡ Some s → length front ≡ s.hops
    hops_of s [] e = absurd (none-some s e)
    hops_of s (j ∷ js) e = let h = hops_after (origin p r) (j ∷ js) s e in omega arith

    pub to_seen : (s : State CutValue) → IsFrontState cut_rules (cut_moves p r) (calls p) s → seen.IsFrontState p r (translated s)
    to_seen s (front, f) =
        let both = relaxed_from_front p r step bounded s front f in
        (front, both.0, state_is front s both.0 both.1 (hops_of s front f.state))

    pub from_seen : (t : seen.State) → seen.IsFrontState p r t → (s : State CutValue) × IsFrontState cut_rules (cut_moves p r) (calls p) s × (translated s ≡ t)
    from_seen t (front, f, is) =
        let m = front_made p r step bounded front f in
        (m.0, (front, m.1), sym (state_is front m.0 f m.2 (hops_of m.0 front m.1.state)) ∙ is)

    -- both cover alike
    cover_alike : (s t : State CutValue) → covers cut_rules s t ≡ seen.covers (translated s) (translated t)
    cover_alike s t = refl

    pub undominated_if_uncovered : (s : State CutValue) → IsUncovered cut_rules (cut_moves p r) (calls p) s → seen.IsUndominated p r (translated s)
    undominated_if_uncovered s u =
        record {
          reached = to_seen s u.reached;
          alone = λ t f c.
              let from = from_seen t f in
              let same = u.alone from.0 from.1 (subst (λ x. seen.covers x (translated s) ≡ true) (sym from.2) c) in
              sym from.2 ∙ ap translated same;
        }

    pub uncovered_if_undominated : (s : State CutValue) → seen.IsUndominated p r (translated s) → IsUncovered cut_rules (cut_moves p r) (calls p) s
    uncovered_if_undominated s u =
        record {
          reached =
              let from = from_seen (translated s) u.reached in
              subst (IsFrontState cut_rules (cut_moves p r) (calls p)) (same_state from.0 s from.2) from.1;
          alone = λ t f c. same_state t s (u.alone (translated t) (to_seen t f) c);
        }

    no_repeat_map : (xs : List (State CutValue)) → HasNoRepeat xs → HasNoRepeat (map translated xs)
    no_repeat_map [] d = tt
    no_repeat_map (x ∷ xs) d = (
      λ m.
          let from = source_of_map translated (translated x) xs m in
          d.0 (subst (λ y. IsMember y xs) (sym (same_state x from.0 from.2)) from.1),
      no_repeat_map xs d.1,
    )

    length_map : (xs : List (State CutValue)) → length (map translated xs) ≡ length xs
    length_map [] = refl
    length_map (x ∷ xs) = ap suc (length_map xs)

    all_from_each : {X : Type 0} (P : X → Type 0) (xs : List X) → ((x : X) → IsMember x xs → P x) → All P xs
    all_from_each P xs f k d below = f (get_or xs k d) (member_at xs k d below)

    -- more uncovered states than the limit are more undominated ones
    pub more_seen : (limit : ℕ) → HasMoreThan cut_rules (cut_moves p r) limit (calls p) → seen.HasMoreThan p r limit
    more_seen limit h =
        record {
          states = map translated h.states;
          many = (let e : length (map translated h.states) ≡ length h.states = length_map h.states in let m : limit < length h.states = h.many in omega arith);
          undominated = all_from_each (seen.IsUndominated p r) (map translated h.states) (λ t m.
              let from = source_of_map translated t h.states m in
              subst (seen.IsUndominated p r) (sym from.2)
              (undominated_if_uncovered from.0 (each_from_all (IsUncovered cut_rules (cut_moves p r) (calls p)) h.states h.uncovered from.0 from.1)));
          once = pairs_from_no_repeat (map translated h.states) (no_repeat_map h.states (no_repeat_from_pairs h.states h.once));
        }

    sources : (ts : List seen.State) → ((t : seen.State) → IsMember t ts → seen.IsUndominated p r t) → (ss : List (State CutValue)) × (map translated ss ≡ ts)
    sources [] f = ([], refl)
    sources (t ∷ ts) f =
        let u = f t (inl refl) in
        let from = from_seen t u.reached in
        let rest = sources ts (λ x m. f x (inr m)) in
        (from.0 ∷ rest.0, ap (λ x. x ∷ map translated rest.0) from.2 ∙ ap (λ xs. t ∷ xs) rest.1)

    no_repeat_back : (xs : List (State CutValue)) → HasNoRepeat (map translated xs) → HasNoRepeat xs
    no_repeat_back [] d = tt
    no_repeat_back (x ∷ xs) d = ((λ m. d.0 (member_of_map translated x xs m)), no_repeat_back xs d.1)

    pub more_labelled : (limit : ℕ) → seen.HasMoreThan p r limit → HasMoreThan cut_rules (cut_moves p r) limit (calls p)
    more_labelled limit h =
        let each = each_from_all (seen.IsUndominated p r) h.states h.undominated in
        let from = sources h.states each in
        let ss = from.0 in
        let e : length (map translated ss) ≡ length ss = length_map ss in
        let g : length (map translated ss) ≡ length h.states = ap length from.1 in
        let m : limit < length h.states = h.many in
        record {
          states = ss;
          many = omega arith;
          uncovered = all_from_each (IsUncovered cut_rules (cut_moves p r) (calls p)) ss (λ s n.
              uncovered_if_undominated s (each (translated s) (subst (λ xs. IsMember (translated s) xs) from.1 (member_of_map translated s ss n))));
          once = pairs_from_no_repeat ss (no_repeat_back ss (subst HasNoRepeat (sym from.1) (no_repeat_from_pairs h.states h.once)));
        }
