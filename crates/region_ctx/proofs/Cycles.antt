-- A walk along the used arcs, call by call, finds a cycle where there is one.
use Rattle.std.proofs.Common.{◌≡◌, ℕ, ◌+◌, ◌<◌, ◌≤◌, ◌⊎◌, inl, inr, true, false, true≢false, List, [], ◌∷◌, ◌++◌, length, refl, sym, ◌∙◌, ap, subst, arith, append_assoc, length-append}
use Rattle.orienteering.specs.Region.{Region, is_used, IsUsedPath, HasCycle}
use Rattle.orienteering.proofs.Members.{IsMember, HasNoRepeat, member_left, member_right, no_repeat_left, not_on_both_sides}
use Rattle.orienteering.proofs.UsedPaths.{AreCalls, number_or_not, few_calls, place_before}
use Rattle.region_ctx.specs.Links.{AreSingle}
use Rattle.region_ctx.specs.Walks.{ComesBack}

module _ (r : Region) (single : AreSingle r.calls r.used) where
  -- ---- from any cycle, one that repeats no call

  abbrev ShortCycle : Type 0
  ShortCycle = (c : ℕ) × (cs : List ℕ) × IsUsedPath r c (cs ++ c ∷ []) × HasNoRepeat (c ∷ cs)

  cut : (s x : ℕ) (js : List ℕ) → IsUsedPath r s js → IsMember x js → (cs : List ℕ) × (rest : List ℕ) × IsUsedPath r s (cs ++ x ∷ []) × (js ≡ cs ++ (x ∷ rest))
  cut s x [] u m = absurd m
  cut s x (j ∷ js) u m =
      elim m [
        | inl e ↦ ([], js, (subst (λ y. is_used r s y ≡ true) (sym e) u.0, tt), (λ i. sym e i ∷ js))
        | inr m' ↦ let more = cut j x js u.1 m' in (j ∷ more.0, more.1, (u.0, more.2), ap (λ ks. j ∷ ks) more.3)
      ]

  short_or_no_repeat : (s : ℕ) (js : List ℕ) → IsUsedPath r s js → ShortCycle ⊎ HasNoRepeat (s ∷ js)
  short_or_no_repeat s [] u = inr ((λ m. m), tt)
  short_or_no_repeat s (j ∷ js) u =
      elim (short_or_no_repeat j js u.1) [
        | inl c ↦ inl c
        | inr d ↦ elim (number_or_not s (j ∷ js)) [
          | inl m ↦
              let part = cut s s (j ∷ js) u m in
              let d' : HasNoRepeat (part.0 ++ (s ∷ part.1)) = subst (λ ks. HasNoRepeat ks) part.3 d in
              inl (s, part.0, part.2, ((λ k. not_on_both_sides s part.0 (s ∷ part.1) d' k (inl refl)), no_repeat_left part.0 (s ∷ part.1) d'))
          | inr none ↦ inr (none, d)
        ]
      ]

  place_after : (s x e : ℕ) (js : List ℕ) → IsUsedPath r s (js ++ e ∷ []) → IsMember x (s ∷ js) → (y : ℕ) × (is_used r x y ≡ true)
  place_after s x e [] u m = elim m [ inl is ↦ (e, subst (λ z. is_used r z e ≡ true) (sym is) u.0) | inr never ↦ absurd never ]
  place_after s x e (j ∷ js) u m =
      elim m [ inl is ↦ (j, subst (λ z. is_used r z j ≡ true) (sym is) u.0) | inr m' ↦ place_after j x e js u.1 m' ]

  pub cycle_comes_back : HasCycle r → (c : ℕ) × (1 ≤ c) × (c ≤ r.calls) × ComesBack r c
  cycle_comes_back h =
      elim (short_or_no_repeat h.0 (h.1 ++ h.0 ∷ []) h.2) [
        | inr d ↦ absurd (d.0 (member_right h.0 h.1 (h.0 ∷ []) (inl refl)))
        | inl short ↦
            let c = short.0 in
            let cs = short.1 in
            let are = calls_of c cs short.2 in
            let fits : length (c ∷ cs) ≤ r.calls = few_calls r.calls (c ∷ cs) short.3 are in
            let b = are c (inl refl) in
            (c, b.0, b.1, (cs, short.2, (let h : length cs < r.calls = omega arith in h)))
      ]
    where
      entered : (c x : ℕ) (cs : List ℕ) → IsMember x (c ∷ cs) → IsMember x (cs ++ c ∷ [])
      entered c x cs m = elim m [ inl e ↦ member_right x cs (c ∷ []) (inl e) | inr m' ↦ member_left x cs (c ∷ []) m' ]

      calls_of : (c : ℕ) (cs : List ℕ) → IsUsedPath r c (cs ++ c ∷ []) → AreCalls r.calls (c ∷ cs)
      calls_of c cs u x m =
          let before = place_before r c x (cs ++ c ∷ []) u (entered c x cs m) in
          let after = place_after c x c cs u m in
          ((single.arcs before.0 x before.2).low, (single.arcs x after.0 after.1).from)

  -- ---- the walk from c, which is now at a place

  -- each path from the place is the end of a path from c
  abbrev pub Reaches : ℕ → ℕ → ℕ → Type 0
  Reaches c at steps = (js : List ℕ) → IsUsedPath r at js → (front : List ℕ) × IsUsedPath r c (front ++ js) × (length front ≡ steps)

  -- each path from c back to it still has a part to come
  abbrev pub Remains : ℕ → ℕ → ℕ → Type 0
  Remains c at steps = (cs : List ℕ) → IsUsedPath r c (cs ++ c ∷ []) → (rest : List ℕ) × IsUsedPath r at (rest ++ c ∷ []) × (length rest + steps ≡ length cs)

  pub reaches_at_first : (c : ℕ) → Reaches c c 0
  reaches_at_first c js u = ([], u, refl)

  pub remains_at_first : (c : ℕ) → Remains c c 0
  remains_at_first c cs u = (cs, u, (let e : length cs + 0 ≡ length cs = omega arith in e))

  pub reaches_next : (c at next steps : ℕ) → is_used r at next ≡ true → Reaches c at steps → Reaches c next (steps + 1)
  reaches_next c at next steps v reaches js u =
      let more = reaches (next ∷ js) (v, u) in (
        more.0 ++ next ∷ [],
        subst (λ ks. IsUsedPath r c ks) (sym (append_assoc more.0 (next ∷ []) js)) more.1,
        (let a : length more.0 ≡ steps = more.2 in let e : length (more.0 ++ next ∷ []) ≡ steps + 1 = omega (arith, length-append more.0 (next ∷ [])) in e),
      )

  pub remains_next : (c at next steps : ℕ) → (at ≡ 0 → ⊥) → is_used r at next ≡ true → (next ≡ c → ⊥) → Remains c at steps → Remains c next (steps + 1)
  remains_next c at next steps no_start v other remains cs u = go (remains cs u).0 (remains cs u).1 (remains cs u).2 where
    go : (rest : List ℕ) → IsUsedPath r at (rest ++ c ∷ []) → length rest + steps ≡ length cs → (rest' : List ℕ) × IsUsedPath r next (rest' ++ c ∷ []) × (length rest' + (steps + 1) ≡ length cs)
    go [] w e = absurd (other (single.one_out at next c no_start v w.0))
    go (q ∷ rest) w e = (rest, subst (λ y. IsUsedPath r y (rest ++ c ∷ [])) (single.one_out at q next no_start w.0 v) w.1, (let f : length rest + (steps + 1) ≡ length cs = omega arith in f))

  pub back_found : (c at steps : ℕ) → is_used r at c ≡ true → steps < r.calls → Reaches c at steps → ComesBack r c
  back_found c at steps v below reaches =
      let more = reaches (c ∷ []) (v, tt) in
      (more.0, more.1, (let e : length more.0 ≡ steps = more.2 in let h : length more.0 < r.calls = omega arith in h))

  pub no_way_on : (c at steps : ℕ) → ((j : ℕ) → is_used r at j ≡ false) → Remains c at steps → ComesBack r c → ⊥
  no_way_on c at steps none remains back = go (remains back.0 back.1).0 (remains back.0 back.1).1 where
    go : (rest : List ℕ) → IsUsedPath r at (rest ++ c ∷ []) → ⊥
    go [] w = true≢false (sym w.0 ∙ none c)
    go (q ∷ rest) w = true≢false (sym w.0 ∙ none q)

  pub too_far : (c at steps : ℕ) → r.calls ≤ steps → Remains c at steps → ComesBack r c → ⊥
  too_far c at steps far remains back =
      let rest = remains back.0 back.1 in
      let e : length rest.0 + steps ≡ length back.0 = rest.2 in
      let h : length back.0 < r.calls = back.2 in
      omega arith
