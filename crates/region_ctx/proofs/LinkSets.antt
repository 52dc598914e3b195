-- What places after and before calls say of the arcs that they stand for.
use Rattle.std.proofs.Common.{◌≡◌, ◌∙◌, ℕ, zero, suc, get_or, replicate, ◌+◌, ◌<◌, ◌≤◌, ◌⊎◌, inl, inr, true, false, true≢false, List, slice_index, set, length, nat_eq, nat_le, ◌&&◌, ◌||◌, refl, sym, ap, subst, arith, length-set, ⊎_elim}
use Rattle.std.proofs.lemmas.Bool.{cases_eq, cases_lt, cond-true, cond-false, eq-eqb, ne_eqb, eqb-true, leb-true, le-leb, and_parts, and_from, or_cases, or_left, or_right, false_from_ne_true}
use Rattle.std.proofs.lemmas.List.{get_or-set_same, get_or-set_other, get_or_default}
use Rattle.std.specs.Cmp.{both_ways}
use Rattle.std.specs.FinSet as finite
use Rattle.orienteering.specs.Instance.{IsArc, is_call}
use Rattle.orienteering.specs.Arc.{arc}
use Rattle.bit_sets.specs.ArcTable.{ArcTable}
use Rattle.bit_sets.proofs.ArcBits.{held_where, where_held, arcs_where-insert, arcs_where-none}
use Rattle.region_ctx.specs.Links.{is_link, links, has_arc_into, has_arc_out, AreLinks, AreSingle}
use Rattle.region_ctx.proofs.Ranges.{one_in_range}

-- an arc out of the start, or out of a call
pub record FromStart (n : ℕ) (previous : List ℕ) (i j : ℕ) : Type 0 where
  pub start : i ≡ 0
  pub low : 1 ≤ j
  pub high : j ≤ n
  pub before : slice_index previous j ≡ 0

pub record FromCall (next : List ℕ) (i j : ℕ) : Type 0 where
  pub call : 1 ≤ i
  pub low : 1 ≤ j
  pub after : slice_index next i ≡ j

module _ (n : ℕ) (next previous : List ℕ) (i j : ℕ) where
  pub link_says : is_link n next previous i j ≡ true → FromStart n previous i j ⊎ FromCall next i j
  link_says h =
      elim (cases_eq i 0) [
        | inl start ↦
            let says = sym (cond-true (nat_eq i 0) (is_call n j && nat_eq (slice_index previous j) 0) (nat_le 1 j && nat_eq (slice_index next i) j) (eq-eqb i 0 start)) ∙ h in
            let parts = and_parts (is_call n j) (nat_eq (slice_index previous j) 0) says in
            let range = and_parts (nat_le 1 j) (nat_le j n) parts.0 in
            inl (record { start = start; low = leb-true 1 j range.0; high = leb-true j n range.1; before = eqb-true (slice_index previous j) 0 parts.1 })
        | inr call ↦
            let says = sym (cond-false (nat_eq i 0) (is_call n j && nat_eq (slice_index previous j) 0) (nat_le 1 j && nat_eq (slice_index next i) j) (ne_eqb i 0 call)) ∙ h in
            let parts = and_parts (nat_le 1 j) (nat_eq (slice_index next i) j) says in
            inr (record { call = omega (arith, call); low = leb-true 1 j parts.0; after = eqb-true (slice_index next i) j parts.1 })
      ]

  pub link_if : FromStart n previous i j ⊎ FromCall next i j → is_link n next previous i j ≡ true
  link_if (inl s) =
      cond-true (nat_eq i 0) (is_call n j && nat_eq (slice_index previous j) 0) (nat_le 1 j && nat_eq (slice_index next i) j) (eq-eqb i 0 s.start)
      ∙ and_from (is_call n j) (nat_eq (slice_index previous j) 0) (and_from (nat_le 1 j) (nat_le j n) (le-leb 1 j s.low) (le-leb j n s.high)) (eq-eqb (slice_index previous j) 0 s.before)
  link_if (inr c) =
      cond-false (nat_eq i 0) (is_call n j && nat_eq (slice_index previous j) 0) (nat_le 1 j && nat_eq (slice_index next i) j) (ne_eqb i 0 (λ e. let low : 1 ≤ i = c.call in omega (arith, e, low)))
      ∙ and_from (nat_le 1 j) (nat_eq (slice_index next i) j) (le-leb 1 j c.low) (eq-eqb (slice_index next i) j c.after)

module _ (n : ℕ) (next previous : List ℕ) (are : AreLinks n next previous) where
  says : (i j : ℕ) → finite.contains (links n next previous) (arc i j) ≡ true → (FromStart n previous i j ⊎ FromCall next i j) × (i ≤ n + 1) × (j ≤ n + 1)
  says i j h =
      let held = where_held n (is_link n next previous) (arc i j) h in
      (link_says n next previous i j held.passes, held.from, held.to)

  holds : (i j : ℕ) → i ≤ n + 1 → j ≤ n + 1 → FromStart n previous i j ⊎ FromCall next i j → finite.contains (links n next previous) (arc i j) ≡ true
  holds i j a b h = held_where n (is_link n next previous) (arc i j) (record { from = a; to = b; passes = link_if n next previous i j h })

  -- a call with a place after it is no end
  call_at : (i j : ℕ) → i ≤ n + 1 → FromCall next i j → i ≤ n
  call_at i j high c =
      ⊎_elim (λ (within : i < n + 1). omega (arith, within))
      (λ (past : n + 1 ≤ i).
      let is_end : i ≡ n + 1 = omega (arith, past, high) in
      let none : slice_index next i ≡ 0 = ap (slice_index next) is_end ∙ are.end in
      let after : slice_index next i ≡ j = c.after in
      let low : 1 ≤ j = c.low in
      absurd (omega (arith, none, after, low)))
      (cases_lt i (n + 1))

  pub next_some : (i : ℕ) → 1 ≤ i → i ≤ n + 1 → 1 ≤ slice_index next i → finite.contains (links n next previous) (arc i (slice_index next i)) ≡ true
  next_some i low high some =
      holds i (slice_index next i) high (are.next_high i high) (inr (record { call = low; low = some; after = refl }))

  pub next_none : (i : ℕ) → 1 ≤ i → slice_index next i ≡ 0 → (j : ℕ) → finite.contains (links n next previous) (arc i j) ≡ false
  next_none i call none j =
      false_from_ne_true _ (λ h.
      elim (says i j h).0 [
        | inl s ↦ let start : i ≡ 0 = s.start in omega (arith, start, call)
        | inr c ↦ let after : slice_index next i ≡ j = c.after in let low : 1 ≤ j = c.low in omega (arith, after, low, none)
      ])

  pub to_is : (i j : ℕ) → (i ≡ 0 → ⊥) → finite.contains (links n next previous) (arc i j) ≡ true → slice_index next i ≡ j
  to_is i j call h =
      elim (says i j h).0 [
        | inl s ↦ absurd (call s.start)
        | inr c ↦ c.after
      ]

  pub from_is : (i j : ℕ) → (j ≡ n + 1 → ⊥) → finite.contains (links n next previous) (arc i j) ≡ true → slice_index previous j ≡ i
  from_is i j call h =
      let all = says i j h in
      elim all.0 [
        | inl s ↦ s.before ∙ sym s.start
        | inr c ↦
            let high : j ≤ n + 1 = all.2 in
            are.back i j c.call (call_at i j all.1 c) c.low (omega (arith, call, high)) c.after
      ]

  pub previous_some : (j : ℕ) → 1 ≤ j → j ≤ n → slice_index previous j ≤ n → finite.contains (links n next previous) (arc (slice_index previous j) j) ≡ true
  previous_some j low high some =
      elim (cases_eq (slice_index previous j) 0) [
        | inl start ↦ holds (slice_index previous j) j (omega (arith, some)) (omega (arith, high)) (inl (record { start = start; low = low; high = high; before = start }))
        | inr call ↦
            holds (slice_index previous j) j (omega (arith, some)) (omega (arith, high))
            (inr (record {
              call = omega (arith, call);
              low = low;
              after = are.forth (slice_index previous j) j (omega (arith, call)) some low high refl;
            }))
      ]

  pub previous_none : (j : ℕ) → j ≤ n → n < slice_index previous j → (i : ℕ) → finite.contains (links n next previous) (arc i j) ≡ false
  previous_none j high none i =
      false_from_ne_true _ (λ h.
      let is : slice_index previous j ≡ i = from_is i j (λ e. omega (arith, e, high)) h in
      let all = says i j h in
      elim all.0 [
        | inl s ↦ let start : i ≡ 0 = s.start in omega (arith, is, start, none)
        | inr c ↦ let within = call_at i j all.1 c in omega (arith, is, within, none)
      ])

  pub single : AreSingle n (links n next previous)
  single = record {
    arcs = λ i j h.
        let all = says i j h in
        elim all.0 [
          | inl s ↦
              let start : i ≡ 0 = s.start in
              let low : 1 ≤ j = s.low in
              let high : j ≤ n = s.high in
              record {
                from = omega (arith, start);
                low = low;
                high = omega (arith, high);
                differ = λ e. omega (arith, e, start, low);
                some_call = λ _ end. omega (arith, end, high);
              }
          | inr c ↦
              let within = call_at i j all.1 c in
              let call : 1 ≤ i = c.call in
              record {
                from = within;
                low = c.low;
                high = all.2;
                differ = λ e. are.moves i call within (c.after ∙ sym e);
                some_call = λ start _. omega (arith, start, call);
              }
        ];
    one_out = λ i j k call h g. sym (to_is i j call h) ∙ to_is i k call g;
    one_in = λ i j k call h g. sym (from_is i k call h) ∙ from_is j k call g;
  }

  -- ---- one more arc

  module _ (i j : ℕ) (is_arc : IsArc n i j) (out : 1 ≤ i → slice_index next i ≡ 0) (into : j ≤ n → n < slice_index previous j) where
    from_within : i ≤ n
    from_within = is_arc.from

    to_low : 1 ≤ j
    to_low = is_arc.low

    to_within : j ≤ n + 1
    to_within = is_arc.high

    next_at : slice_index (set next i j) i ≡ j
    next_at =
        let long = are.next_places in
        let within = from_within in
        get_or-set_same next i j 0 (omega (arith, long, within))

    next_off : (k : ℕ) → (k ≡ i → ⊥) → slice_index (set next i j) k ≡ slice_index next k
    next_off k other = get_or-set_other next i k j 0 other

    previous_at : slice_index (set previous j i) j ≡ i
    previous_at =
        let long = are.previous_places in
        let within = to_within in
        get_or-set_same previous j i 0 (omega (arith, long, within))

    previous_off : (k : ℕ) → (k ≡ j → ⊥) → slice_index (set previous j i) k ≡ slice_index previous k
    previous_off k other = get_or-set_other previous j k i 0 other

    pub are_linked : AreLinks n (set next i j) (set previous j i)
    are_linked = record {
      small = are.small;
      next_places = length-set next i j ∙ are.next_places;
      previous_places = length-set previous j i ∙ are.previous_places;
      next_high = λ k high. elim (cases_eq k i) [
        | inl same ↦ let at = ap (slice_index (set next i j)) same ∙ next_at in let top = to_within in omega (arith, at, top)
        | inr other ↦ let off = next_off k other in let top = are.next_high k high in omega (arith, off, top)
      ];
      previous_high = λ k high. elim (cases_eq k j) [
        | inl same ↦ let at = ap (slice_index (set previous j i)) same ∙ previous_at in let top = from_within in omega (arith, at, top)
        | inr other ↦ let off = previous_off k other in let top = are.previous_high k high in omega (arith, off, top)
      ];
      end = next_off (n + 1) (λ e. let within = from_within in omega (arith, e, within)) ∙ are.end;
      moves = λ k low high e. elim (cases_eq k i) [
        | inl same ↦ is_arc.differ (sym same ∙ (sym e ∙ (ap (slice_index (set next i j)) same ∙ next_at)))
        | inr other ↦ are.moves k low high (sym (next_off k other) ∙ e)
      ];
      back = λ k m k_low k_high m_low m_high e. elim (cases_eq k i) [
        | inl same ↦
            let here : m ≡ j = sym e ∙ (ap (slice_index (set next i j)) same ∙ next_at) in
            ap (slice_index (set previous j i)) here ∙ (previous_at ∙ sym same)
        | inr other ↦
            let old : slice_index previous m ≡ k = are.back k m k_low k_high m_low m_high (sym (next_off k other) ∙ e) in
            previous_off m (λ here.
            let free : n < slice_index previous j = into (omega (arith, here, m_high)) in
            let taken : slice_index previous j ≡ k = ap (slice_index previous) (sym here) ∙ old in
            omega (arith, free, taken, k_high)) ∙ old
      ];
      forth = λ k m k_low k_high m_low m_high e. elim (cases_eq m j) [
        | inl same ↦
            let here : k ≡ i = sym e ∙ (ap (slice_index (set previous j i)) same ∙ previous_at) in
            ap (slice_index (set next i j)) here ∙ (next_at ∙ sym same)
        | inr other ↦
            let old : slice_index next k ≡ m = are.forth k m k_low k_high m_low m_high (sym (previous_off m other) ∙ e) in
            next_off k (λ here.
            let free : slice_index next i ≡ 0 = out (omega (arith, here, k_low)) in
            let taken : slice_index next i ≡ m = ap (slice_index next) (sym here) ∙ old in
            omega (arith, free, taken, m_low)) ∙ old
      ];
    }

    old_or_new : (k m : ℕ) → m ≤ n + 1 → is_link n (set next i j) (set previous j i) k m ≡ true → ((nat_eq k i && nat_eq m j) || is_link n next previous k m) ≡ true
    old_or_new k m m_high h =
        elim (link_says n (set next i j) (set previous j i) k m h) [
          | inl s ↦ elim (cases_eq m j) [
            | inl same ↦
                let start : k ≡ 0 = s.start in
                let here : i ≡ 0 = sym previous_at ∙ (ap (slice_index (set previous j i)) (sym same) ∙ s.before) in
                or_left _ _ (and_from _ _ (eq-eqb k i (start ∙ sym here)) (eq-eqb m j same))
            | inr other ↦
                or_right _ _ (link_if n next previous k m (inl (record { start = s.start; low = s.low; high = s.high; before = sym (previous_off m other) ∙ s.before })))
          ]
          | inr c ↦ elim (cases_eq k i) [
            | inl same ↦
                let here : m ≡ j = sym c.after ∙ (ap (slice_index (set next i j)) same ∙ next_at) in
                or_left _ _ (and_from _ _ (eq-eqb k i same) (eq-eqb m j here))
            | inr other ↦
                or_right _ _ (link_if n next previous k m (inr (record { call = c.call; low = c.low; after = sym (next_off k other) ∙ c.after })))
          ]
        ]

    new_or_old : (k m : ℕ) → ((nat_eq k i && nat_eq m j) || is_link n next previous k m) ≡ true → is_link n (set next i j) (set previous j i) k m ≡ true
    new_or_old k m h =
        elim (or_cases _ _ h) [
          | inl e ↦
              let both = and_parts (nat_eq k i) (nat_eq m j) e in
              let here : k ≡ i = eqb-true k i both.0 in
              let there : m ≡ j = eqb-true m j both.1 in
              link_if n (set next i j) (set previous j i) k m (elim (cases_eq i 0) [
                | inl start ↦ inl (record {
                  start = here ∙ start;
                  low = let low = to_low in omega (arith, low, there);
                  high = let high = to_within in let end = is_arc.some_call start in omega (arith, high, there, end);
                  before = ap (slice_index (set previous j i)) there ∙ (previous_at ∙ start);
                })
                | inr call ↦ inr (record {
                  call = omega (arith, call, here);
                  low = let low = to_low in omega (arith, low, there);
                  after = ap (slice_index (set next i j)) here ∙ (next_at ∙ sym there);
                })
              ])
          | inr e ↦
              link_if n (set next i j) (set previous j i) k m (elim (link_says n next previous k m e) [
                | inl s ↦ inl (record {
                  start = s.start;
                  low = s.low;
                  high = s.high;
                  before = previous_off m (λ there.
                      let high : m ≤ n = s.high in
                      let free : n < slice_index previous j = into (omega (arith, there, high)) in
                      let taken : slice_index previous j ≡ 0 = ap (slice_index previous) (sym there) ∙ s.before in
                      omega (arith, free, taken)) ∙ s.before;
                })
                | inr c ↦ inr (record {
                  call = c.call;
                  low = c.low;
                  after = next_off k (λ here.
                      let call : 1 ≤ k = c.call in
                      let low : 1 ≤ m = c.low in
                      let free : slice_index next i ≡ 0 = out (omega (arith, here, call)) in
                      let taken : slice_index next i ≡ m = ap (slice_index next) (sym here) ∙ c.after in
                      omega (arith, free, taken, low)) ∙ c.after;
                })
              ])
        ]

    pub links-linked : links n (set next i j) (set previous j i) ≡ finite.insert (links n next previous) (arc i j)
    links-linked =
        let from = from_within in
        arcs_where-insert n (is_link n next previous) (is_link n (set next i j) (set previous j i)) i j (omega (arith, from)) to_within
        (λ k m _ m_high. both_ways _ _ (old_or_new k m m_high) (new_or_old k m))

-- ---- no arc

same_everywhere : {A : Type 0} (count k : ℕ) (x d : A) → k < count → get_or (replicate count x) k d ≡ x
same_everywhere zero k x d h = absurd (omega arith)
same_everywhere (suc count) zero x d h = refl
same_everywhere (suc count) (suc k) x d h = same_everywhere count k x d (omega (arith, h))

pub no_links : (n : ℕ) → links n (replicate (n + 2) 0) (replicate (n + 2) (n + 1)) ≡ finite.empty
no_links n =
    arcs_where-none n (is_link n (replicate (n + 2) 0) (replicate (n + 2) (n + 1))) (λ i j from to.
    false_from_ne_true _ (λ h.
    elim (link_says n (replicate (n + 2) 0) (replicate (n + 2) (n + 1)) i j h) [
      | inl s ↦
          let none : slice_index (replicate (n + 2) (n + 1)) j ≡ n + 1 = same_everywhere (n + 2) j (n + 1) 0 (omega (arith, to)) in
          let before : slice_index (replicate (n + 2) (n + 1)) j ≡ 0 = s.before in
          omega (arith, none, before)
      | inr c ↦
          let none : slice_index (replicate (n + 2) 0) i ≡ 0 = same_everywhere (n + 2) i 0 0 (omega (arith, from)) in
          let after : slice_index (replicate (n + 2) 0) i ≡ j = c.after in
          let low : 1 ≤ j = c.low in
          omega (arith, none, after, low)
    ]))

-- ---- a place that was read, with the arcs that are seen

module _ (t : ArcTable) (n : ℕ) (next previous : List ℕ) (are : AreLinks n next previous) (seen : ◌≡◌ {A = ArcTable} (record { calls = n; arcs = links n next previous }) t) where
  calls_are : n ≡ t.calls
  calls_are = ap (λ (u : ArcTable). u.calls) seen

  read : (xs : List ℕ) (i x : ℕ) → i < length xs → x ≡ get_or xs i x → slice_index xs i ≡ x
  read xs i x within is = get_or_default xs i 0 x within ∙ sym is

  -- the place after i
  module _ (i k : ℕ) (low : 1 ≤ i) (high : i ≤ t.calls + 1) (is : k ≡ get_or next i k) where
    next_is : slice_index next i ≡ k
    next_is =
        let same = calls_are in
        let long = are.next_places in
        read next i k (omega arith) is

    pub seen_next : 1 ≤ k → finite.contains t.arcs (arc i k) ≡ true
    seen_next some =
        let same = calls_are in
        let at = next_is in
        subst (λ (u : ArcTable). finite.contains u.arcs (arc i k) ≡ true) seen
        (subst (λ k. finite.contains (links n next previous) (arc i k) ≡ true) next_is
        (next_some n next previous are i low (omega arith) (omega arith)))

    pub seen_no_next : k ≡ 0 → (j : ℕ) → finite.contains t.arcs (arc i j) ≡ false
    seen_no_next none j =
        subst (λ (u : ArcTable). finite.contains u.arcs (arc i j) ≡ false) seen
        (next_none n next previous are i low (next_is ∙ none) j)

  -- the place before j
  module _ (j k : ℕ) (low : 1 ≤ j) (high : j ≤ t.calls) (is : k ≡ get_or previous j k) where
    previous_is : slice_index previous j ≡ k
    previous_is =
        let same = calls_are in
        let long = are.previous_places in
        read previous j k (omega arith) is

    pub seen_previous : k ≤ t.calls → finite.contains t.arcs (arc k j) ≡ true
    seen_previous some =
        let same = calls_are in
        let at = previous_is in
        subst (λ (u : ArcTable). finite.contains u.arcs (arc k j) ≡ true) seen
        (subst (λ k. finite.contains (links n next previous) (arc k j) ≡ true) previous_is
        (previous_some n next previous are j low (omega arith) (omega arith)))

    pub seen_no_previous : t.calls < k → (i : ℕ) → finite.contains t.arcs (arc i j) ≡ false
    seen_no_previous none i =
        let same = calls_are in
        let at = previous_is in
        subst (λ (u : ArcTable). finite.contains u.arcs (arc i j) ≡ false) seen
        (previous_none n next previous are j (omega arith) (omega arith) i)

  pub seen_alone : (i k : ℕ) → 1 ≤ i → i ≤ t.calls + 1 → k ≡ get_or next i k → (j : ℕ) → finite.contains t.arcs (arc i j) ≡ true → j ≡ k
  seen_alone i k low high is j held =
      sym (to_is n next previous are i j (λ start. omega (arith, start, low))
      (subst (λ (u : ArcTable). finite.contains u.arcs (arc i j) ≡ true) (sym seen) held))
      ∙ next_is i k low high is

  -- what asks for one more arc of the seen ones, of the places
  pub free_out : (i : ℕ) → i ≤ n → (1 ≤ i → has_arc_out t.calls t.arcs i ≡ false) → 1 ≤ i → slice_index next i ≡ 0
  free_out i within out low =
      ⊎_elim (λ (none : slice_index next i < 1). omega (arith, none))
      (λ (some : 1 ≤ slice_index next i).
      let high = are.next_high i (omega (arith, within)) in
      absurd (true≢false (sym (one_in_range (λ j. finite.contains (links n next previous) (arc i j)) 1 (n + 1) (slice_index next i) some (omega (arith, high))
      (next_some n next previous are i low (omega (arith, within)) some))
      ∙ subst (λ (u : ArcTable). has_arc_out u.calls u.arcs i ≡ false) (sym seen) (out low))))
      (cases_lt (slice_index next i) 1)

  pub free_into : (j : ℕ) → 1 ≤ j → (j ≤ t.calls → has_arc_into t.calls t.arcs j ≡ false) → j ≤ n → n < slice_index previous j
  free_into j low into high =
      ⊎_elim (λ (none : n < slice_index previous j). none)
      (λ (some : slice_index previous j ≤ n).
      let same = calls_are in
      absurd (true≢false (sym (one_in_range (λ i. finite.contains (links n next previous) (arc i j)) 0 (n + 1) (slice_index previous j) (omega arith) (omega (arith, some))
      (previous_some n next previous are j low high some))
      ∙ subst (λ (u : ArcTable). has_arc_into u.calls u.arcs j ≡ false) (sym seen) (into (omega arith)))))
      (cases_lt n (slice_index previous j))
