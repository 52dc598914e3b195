-- A walk along the used arcs with a clock finds a late step where there is one.
use Rattle.std.proofs.Common.{◌≡◌, ℕ, suc, ◌+◌, ◌<◌, ◌≤◌, inl, inr, true, false, true≢false, List, [], ◌∷◌, ◌++◌, length, refl, sym, ◌∙◌, ap, subst, arith, append_assoc, nat_eq, None, Some, option_and_then}
use Rattle.std.specs.List.{IsDistinct, range_with_len}
use Rattle.std.proofs.lemmas.List.FromFn.{length-range_with_len}
use Rattle.orienteering.specs.Instance.{Problem, site, next_clock, IsArc}
use Rattle.orienteering.specs.Tour.{clock_along}
use Rattle.orienteering.specs.Region.{Region, is_used, IsUsedPath, IsLate}
use Rattle.orienteering.proofs.Members.{IsMember, HasNoRepeat, member_left, member_right, member_cases, member_of_range, no_repeat_append, not_on_both_sides, no_repeat_from_IsDistinct, total, total_within, total_one}
use Rattle.orienteering.proofs.UsedPaths.{IsDistinct-from_no_repeat, place_before}
use Rattle.region_ctx.specs.Links.{AreSingle}
use Rattle.region_ctx.specs.Walks.{IsLateFrom, StartsLate}

module _ (p : Problem) (r : Region) (single : AreSingle r.calls r.used) (s first : ℕ) where
  -- the places walked so far, from s through `front` to `from`, with the next one
  pub record Walked (clock from to : ℕ) : Type 0 where
    pub front : List ℕ
    pub no_repeat : HasNoRepeat (s ∷ (front ++ to ∷ []))
    pub begins : (js : List ℕ) → (tail : List ℕ) × (front ++ (to ∷ js) ≡ first ∷ tail)
    pub ends : (x : ℕ) → IsMember x (front ++ to ∷ []) → (y : ℕ) × IsMember y (s ∷ front) × (is_used r y x ≡ true)
    pub left : (x : ℕ) → IsMember x (s ∷ front) → (y : ℕ) × (is_used r x y ≡ true)
    pub step : is_used r from to ≡ true
    pub path : (js : List ℕ) → IsUsedPath r from (to ∷ js) → IsUsedPath r s (front ++ (to ∷ js))
    pub clocks : (js : List ℕ) → clock_along p (site p s).opening s (front ++ (to ∷ js)) ≡ clock_along p clock from (to ∷ js)

  -- what is still to come of each late path
  abbrev pub Awaits : ℕ → ℕ → ℕ → ℕ → Type 0
  Awaits clock from to steps =
      (js : List ℕ) → HasNoRepeat (s ∷ first ∷ js) → IsUsedPath r s (first ∷ js) → clock_along p (site p s).opening s (first ∷ js) ≡ None →
      (rest : List ℕ) × IsUsedPath r from (to ∷ rest) × (clock_along p clock from (to ∷ rest) ≡ None) × (IsMember s (to ∷ rest) → ⊥) × (length rest + steps ≡ length js)

  pub walked_at_first : is_used r s first ≡ true → Walked (site p s).opening s first
  walked_at_first u =
      let a : IsArc r.calls s first = single.arcs s first u in
      record {
        front = [];
        no_repeat = ((λ m. elim m [ inl e ↦ a.differ e | inr never ↦ never ]), ((λ m. m), tt));
        begins = λ js. (js, refl);
        ends = λ x m. elim m [ inl e ↦ (s, inl refl, subst (λ y. is_used r s y ≡ true) (sym e) u) | inr never ↦ absurd never ];
        left = λ x m. elim m [ inl e ↦ (first, subst (λ y. is_used r y first ≡ true) (sym e) u) | inr never ↦ absurd never ];
        step = u;
        path = λ js w. w;
        clocks = λ js. refl;
      }

  pub awaits_at_first : Awaits (site p s).opening s first 0
  awaits_at_first js d u late = (js, u, late, d.0, (let e : length js + 0 ≡ length js = omega arith in e))

  -- one step on, which is in time
  new_place : (clock from to next : ℕ) (w : Walked clock from to) → is_used r to next ≡ true → (next ≡ s → ⊥) → IsMember next (s ∷ (w.front ++ to ∷ [])) → ⊥
  new_place clock from to next w u other m =
      elim m [
        | inl e ↦ other e
        | inr m' ↦
            let before = w.ends next m' in
            let after = later next m' in
            let a : IsArc r.calls next after.0 = single.arcs next after.0 after.1 in
            let same : before.0 ≡ to = single.one_in before.0 to next (λ e. let b : next ≤ r.calls = a.from in omega arith) before.2 u in
            apart before.0 before.1 same
      ]
    where
      later : (x : ℕ) → IsMember x (w.front ++ to ∷ []) → (y : ℕ) × (is_used r x y ≡ true)
      later x k =
          elim (member_cases x w.front (to ∷ []) k) [
            | inl f ↦ w.left x (inr f)
            | inr t ↦ elim t [ inl e ↦ (next, subst (λ y. is_used r y next ≡ true) (sym e) u) | inr never ↦ absurd never ]
          ]

      apart : (y : ℕ) → IsMember y (s ∷ w.front) → y ≡ to → ⊥
      apart y k e =
          not_on_both_sides y (s ∷ w.front) (to ∷ []) w.no_repeat k (inl e)

  pub walked_on : (clock from to next later : ℕ) → next_clock p clock from to ≡ Some later → is_used r to next ≡ true → (next ≡ s → ⊥) → Walked clock from to → Walked later to next
  walked_on clock from to next later in_time u other w =
      record {
        front = w.front ++ to ∷ [];
        no_repeat = no_repeat_append (s ∷ (w.front ++ to ∷ [])) (next ∷ []) w.no_repeat ((λ m. m), tt) (λ x m m'. elim m' [ inl e ↦ new_place clock from to next w u other (subst (λ y. IsMember y (s ∷ (w.front ++ to ∷ []))) e m) | inr never ↦ never ]);
        begins = λ js. let b = w.begins (next ∷ js) in (b.0, append_assoc w.front (to ∷ []) (next ∷ js) ∙ b.1);
        ends = λ x m. elim (member_cases x (w.front ++ to ∷ []) (next ∷ []) m) [
          | inl old ↦ let e = w.ends x old in (e.0, member_left e.0 (s ∷ w.front) (to ∷ []) e.1, e.2)
          | inr new ↦ elim new [
            | inl e ↦ (to, inr (member_right to w.front (to ∷ []) (inl refl)), subst (λ y. is_used r to y ≡ true) (sym e) u)
            | inr never ↦ absurd never
          ]
        ];
        left = λ x m. elim (member_cases x (s ∷ w.front) (to ∷ []) m) [
          | inl old ↦ w.left x old
          | inr new ↦ elim new [ inl e ↦ (next, subst (λ y. is_used r y next ≡ true) (sym e) u) | inr never ↦ absurd never ]
        ];
        step = u;
        path = λ js v. subst (λ ks. IsUsedPath r s ks) (sym (append_assoc w.front (to ∷ []) (next ∷ js))) (w.path (next ∷ js) (w.step, v));
        clocks = λ js.
            ap (clock_along p (site p s).opening s) (append_assoc w.front (to ∷ []) (next ∷ js))
            ∙ w.clocks (next ∷ js)
            ∙ ap (option_and_then (λ d. clock_along p d to (next ∷ js))) in_time;
      }

  not_late_yet : (clock from to later : ℕ) → next_clock p clock from to ≡ Some later → clock_along p clock from (to ∷ []) ≡ None → ⊥
  not_late_yet clock from to later in_time late =
      let e : option_and_then (λ d. Some d) (next_clock p clock from to) ≡ Some later = ap (option_and_then (λ d. Some d)) in_time in
      cc

  pub awaits_on : (clock from to next later steps : ℕ) → next_clock p clock from to ≡ Some later → (to ≡ 0 → ⊥) → is_used r to next ≡ true → Awaits clock from to steps → Awaits later to next (steps + 1)
  awaits_on clock from to next later steps in_time no_start u awaits js d v late = go a.0 a.1 a.2 a.3 a.4 where
    a : (rest : List ℕ) × IsUsedPath r from (to ∷ rest) × (clock_along p clock from (to ∷ rest) ≡ None) × (IsMember s (to ∷ rest) → ⊥) × (length rest + steps ≡ length js)
    a = awaits js d v late

    go : (rest : List ℕ) → IsUsedPath r from (to ∷ rest) → clock_along p clock from (to ∷ rest) ≡ None → (IsMember s (to ∷ rest) → ⊥) → length rest + steps ≡ length js → (rest' : List ℕ) × IsUsedPath r to (next ∷ rest') × (clock_along p later to (next ∷ rest') ≡ None) × (IsMember s (next ∷ rest') → ⊥) × (length rest' + (steps + 1) ≡ length js)
    go [] w e away n = absurd (not_late_yet clock from to later in_time e)
    go (q ∷ rest) w e away n =
        let same : q ≡ next = single.one_out to q next no_start w.1.0 u in
        let e' : clock_along p later to (q ∷ rest) ≡ None = sym (ap (option_and_then (λ d. clock_along p d to (q ∷ rest))) in_time) ∙ e in (
          rest,
          subst (λ y. IsUsedPath r to (y ∷ rest)) same w.1,
          subst (λ y. clock_along p later to (y ∷ rest) ≡ None) same e',
          (λ m. away (inr (subst (λ y. IsMember s (y ∷ rest)) (sym same) m))),
          (let f : length rest + (steps + 1) ≡ length js = omega arith in f),
        )

  -- ---- how the walk ends

  pub late_found : (clock from to : ℕ) → next_clock p clock from to ≡ None → Walked clock from to → IsLateFrom p r s first
  late_found clock from to late w =
      let b = w.begins [] in
      let whole : clock_along p (site p s).opening s (w.front ++ (to ∷ [])) ≡ None = w.clocks [] ∙ ap (option_and_then (λ d. Some d)) late in (
        b.0,
        IsDistinct-from_no_repeat (s ∷ first ∷ b.0) (subst (λ ks. HasNoRepeat (s ∷ ks)) b.1 w.no_repeat),
        subst (λ ks. IsUsedPath r s ks) b.1 (w.path [] (w.step, tt)),
        subst (λ ks. clock_along p (site p s).opening s ks ≡ None) b.1 whole,
      )

  pub no_way_late : (clock from to later steps : ℕ) → next_clock p clock from to ≡ Some later → ((j : ℕ) → is_used r to j ≡ false) → Awaits clock from to steps → IsLateFrom p r s first → ⊥
  no_way_late clock from to later steps in_time none awaits l = go a.0 a.1 a.2 where
    a : (rest : List ℕ) × IsUsedPath r from (to ∷ rest) × (clock_along p clock from (to ∷ rest) ≡ None) × (IsMember s (to ∷ rest) → ⊥) × (length rest + steps ≡ length l.0)
    a = awaits l.0 (no_repeat_from_IsDistinct (s ∷ first ∷ l.0) l.1) l.2 l.3

    go : (rest : List ℕ) → IsUsedPath r from (to ∷ rest) → clock_along p clock from (to ∷ rest) ≡ None → ⊥
    go [] w e = not_late_yet clock from to later in_time e
    go (q ∷ rest) w e = true≢false (sym w.1.0 ∙ none q)

  pub round_is_not_late : (clock from to later steps : ℕ) → next_clock p clock from to ≡ Some later → (to ≡ 0 → ⊥) → is_used r to s ≡ true → Awaits clock from to steps → IsLateFrom p r s first → ⊥
  round_is_not_late clock from to later steps in_time no_start u awaits l = go a.0 a.1 a.2 a.3 where
    a : (rest : List ℕ) × IsUsedPath r from (to ∷ rest) × (clock_along p clock from (to ∷ rest) ≡ None) × (IsMember s (to ∷ rest) → ⊥) × (length rest + steps ≡ length l.0)
    a = awaits l.0 (no_repeat_from_IsDistinct (s ∷ first ∷ l.0) l.1) l.2 l.3

    go : (rest : List ℕ) → IsUsedPath r from (to ∷ rest) → clock_along p clock from (to ∷ rest) ≡ None → (IsMember s (to ∷ rest) → ⊥) → ⊥
    go [] w e away = not_late_yet clock from to later in_time e
    go (q ∷ rest) w e away = away (inr (inl (single.one_out to s q no_start u w.1.0)))

  pub too_long : (clock from to steps : ℕ) → r.calls < steps → Awaits clock from to steps → IsLateFrom p r s first → ⊥
  too_long clock from to steps far awaits l =
      let d = no_repeat_from_IsDistinct (s ∷ first ∷ l.0) l.1 in
      let a = awaits l.0 d l.2 l.3 in
      let n : length a.0 + steps ≡ length l.0 = a.4 in
      let fits : total (λ _. 1) (s ∷ first ∷ l.0) ≤ total (λ _. 1) (range_with_len 0 (r.calls + 2)) =
      total_within (λ _. 1) (s ∷ first ∷ l.0) (range_with_len 0 (r.calls + 2)) d places
      in
      let b : total (λ _. 1) (s ∷ first ∷ l.0) ≡ length (s ∷ first ∷ l.0) = total_one (s ∷ first ∷ l.0) in
      let c : total (λ _. 1) (range_with_len 0 (r.calls + 2)) ≡ length (range_with_len 0 (r.calls + 2)) = total_one (range_with_len 0 (r.calls + 2)) in
      let e : length (range_with_len 0 (r.calls + 2)) ≡ r.calls + 2 = length-range_with_len 0 (r.calls + 2) in
      let bound : length (s ∷ first ∷ l.0) ≤ r.calls + 2 = omega arith in
      let two : length (s ∷ first ∷ l.0) ≡ suc (suc (length l.0)) = refl in
      omega arith
    where
      places : (x : ℕ) → IsMember x (s ∷ first ∷ l.0) → IsMember x (range_with_len 0 (r.calls + 2))
      places x m =
          elim m [
            | inl e ↦ let a : IsArc r.calls s first = single.arcs s first l.2.0 in let b : s ≤ r.calls = a.from in member_of_range 0 (r.calls + 2) x (omega arith) (omega arith)
            | inr m' ↦
                let before = place_before r s x (first ∷ l.0) l.2 m' in
                let a : IsArc r.calls before.0 x = single.arcs before.0 x before.2 in
                let b : x ≤ r.calls + 1 = a.high in
                member_of_range 0 (r.calls + 2) x (omega arith) (omega arith)
          ]

-- a late path has a first arc
pub late_has_first : (p : Problem) (r : Region) (single : AreSingle r.calls r.used) → IsLate p r → (s : ℕ) × (first : ℕ) × (s ≤ r.calls) × ((1 ≤ first) × (first ≤ r.calls + 1)) × (is_used r s first ≡ true) × IsLateFrom p r s first
late_has_first p r single l = go l.0 l.1 l.2 l.3 l.4 where
  go : (s : ℕ) (js : List ℕ) → IsDistinct nat_eq (s ∷ js) → IsUsedPath r s js → clock_along p (site p s).opening s js ≡ None → (s : ℕ) × (first : ℕ) × (s ≤ r.calls) × ((1 ≤ first) × (first ≤ r.calls + 1)) × (is_used r s first ≡ true) × IsLateFrom p r s first
  go s [] d u late = cc
  go s (first ∷ js) d u late =
      let a : IsArc r.calls s first = single.arcs s first u.0 in
      (s, first, a.from, (a.low, a.high), u.0, (js, d, u, late))

pub late_from_first : (p : Problem) (r : Region) (s first : ℕ) → IsLateFrom p r s first → IsLate p r
late_from_first p r s first l = (s, first ∷ l.0, l.1, l.2, l.3)

pub late_starts : (p : Problem) (r : Region) (single : AreSingle r.calls r.used) → IsLate p r → (s : ℕ) × (s ≤ r.calls) × StartsLate p r s
late_starts p r single l = let f = late_has_first p r single l in (f.0, f.2, (f.1, f.4, f.5))

pub starts_late : (p : Problem) (r : Region) (s : ℕ) → StartsLate p r s → IsLate p r
starts_late p r s l = late_from_first p r s l.0 l.2
