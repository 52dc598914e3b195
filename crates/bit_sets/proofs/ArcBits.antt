-- The set of the arcs that pass a test, and what changes with one bit.
use Rattle.std.proofs.Common.{◌≡◌, ◌∙◌, ℕ, ◌+◌, ◌*◌, ◌/◌, ◌%◌, ◌≤◌, ◌==◌, ◌||◌, ◌&&◌, not, inl, inr, Bool, true, false, true≢false, List, replicate, map, nat_eq, refl, sym, ap, subst, arith}
use Rattle.std.specs.Int.{bit_at}
use Rattle.std.proofs.lemmas.Bool.{eq-eqb, eqb-true, or_left, or_right, or_cases, and_parts, and_from, not-true, not_from_false, false_from_ne_true}
use Rattle.std.proofs.lemmas.Nat.Bits.{bit_at-zero}
use Rattle.std.specs.Cmp.{both_ways}
use Rattle.std.specs.Ordering.{eq_by_cmp}
use Rattle.std.specs.FinSet as set
use Rattle.orienteering.specs.Arc.{Arc, arc, arc_cmp, ArcSet}
use Rattle.orienteering.proofs.Members.{IsMember, member_of_range, range_of_member, member_of_part, part_of_member, member_of_map, source_of_map, member_of_filter, source_of_filter, some_passes, one_that_passes}
use Rattle.orienteering.proofs.ArcSets.{arc_cmp_total, arc_cmp_antisymmetric, tied_arcs_are_same, same_arcs_are_tied}
use Rattle.bit_sets.specs.Words.{has_bit}
use Rattle.bit_sets.specs.ArcTable.{all_places, all_pairs, arcs_where, arcs_of, bit_of}
use Rattle.bit_sets.proofs.Members.{get_or-zeros}

member_of_pairs : (n i j : ℕ) → i ≤ n + 1 → j ≤ n + 1 → IsMember (arc i j) (all_pairs n)
member_of_pairs n i j a b =
    member_of_part (λ i. map (arc i) (all_places n)) i (arc i j) (all_places n)
    (member_of_range 0 (n + 2) i (omega arith) (omega arith))
    (member_of_map (arc i) j (all_places n) (member_of_range 0 (n + 2) j (omega arith) (omega arith)))

pair_of_member : (n : ℕ) (a : Arc) → IsMember a (all_pairs n) → (a.from ≤ n + 1) × (a.to ≤ n + 1)
pair_of_member n a m =
    let row = part_of_member (λ i. map (arc i) (all_places n)) a (all_places n) m in
    let cell = source_of_map (arc row.0) a (all_places n) row.2 in
    let from_within = range_of_member 0 (n + 2) row.0 row.1 in
    let to_within = range_of_member 0 (n + 2) cell.0 cell.1 in
    let e : a.from ≡ row.0 = ap (λ (x : Arc). x.from) cell.2 in
    let f : a.to ≡ cell.0 = ap (λ (x : Arc). x.to) cell.2 in
    (omega arith, omega arith)

-- the set of a list holds the members of the list
set_of_member : (ks : List Arc) (q : Arc) → IsMember q ks → set.contains {R = arc_cmp} (set.from_list ks) q ≡ true
set_of_member ks q m =
    set.contains-from_list arc_cmp_total ks q ∙ some_passes (eq_by_cmp arc_cmp q) q ks m (same_arcs_are_tied q q refl)

member_of_set : (ks : List Arc) (q : Arc) → set.contains {R = arc_cmp} (set.from_list ks) q ≡ true → IsMember q ks
member_of_set ks q h =
    let one = one_that_passes (eq_by_cmp arc_cmp q) ks (sym (set.contains-from_list arc_cmp_total ks q) ∙ h) in
    subst (λ u. IsMember u ks) (sym (tied_arcs_are_same q one.0 one.2)) one.1

-- an arc of the set passes the test, and its places are places
pub record IsArcWhere (n : ℕ) (test : ℕ → ℕ → Bool) (q : Arc) : Type 0 where
  pub from : q.from ≤ n + 1
  pub to : q.to ≤ n + 1
  pub passes : test q.from q.to ≡ true

pub held_where : (n : ℕ) (test : ℕ → ℕ → Bool) (q : Arc) → IsArcWhere n test q → set.contains (arcs_where n test) q ≡ true
unfolding arcs_where
held_where n test q h =
    set_of_member _ q (member_of_filter (λ (x : Arc). test x.from x.to) q (all_pairs n) (member_of_pairs n q.from q.to h.from h.to) h.passes)

pub where_held : (n : ℕ) (test : ℕ → ℕ → Bool) (q : Arc) → set.contains (arcs_where n test) q ≡ true → IsArcWhere n test q
unfolding arcs_where
where_held n test q h =
    let s = source_of_filter (λ (x : Arc). test x.from x.to) q (all_pairs n) (member_of_set _ q h) in
    let within = pair_of_member n q s.0 in
    record { from = within.0; to = within.1; passes = s.1 }

pub contains-arcs_where : (n : ℕ) (test : ℕ → ℕ → Bool) (i j : ℕ) → i ≤ n + 1 → j ≤ n + 1 → test i j ≡ set.contains (arcs_where n test) (arc i j)
contains-arcs_where n test i j a b =
    both_ways _ _ (λ h. held_where n test (arc i j) (record { from = a; to = b; passes = h })) (λ h. (where_held n test (arc i j) h).passes)

-- a set is that of the arcs that pass a test if it holds the same ones
pub same_as_where : (n : ℕ) (test : ℕ → ℕ → Bool) (s : ArcSet) → ((q : Arc) → IsArcWhere n test q → set.contains s q ≡ true)
    → ((q : Arc) → set.contains s q ≡ true → IsArcWhere n test q) → arcs_where n test ≡ s
same_as_where n test s forth back =
    set.same_set arc_cmp_total arc_cmp_antisymmetric (arcs_where n test) s
    (λ q. both_ways _ _ (λ h. forth q (where_held n test q h)) (λ h. held_where n test q (back q h)))

pub arcs_where-none : (n : ℕ) (test : ℕ → ℕ → Bool) → ((i j : ℕ) → i ≤ n + 1 → j ≤ n + 1 → test i j ≡ false) → arcs_where n test ≡ set.empty
arcs_where-none n test none =
    same_as_where n test set.empty
    (λ q h. absurd (true≢false (sym h.passes ∙ none q.from q.to h.from h.to)))
    (λ q h. absurd (true≢false (sym h ∙ set.contains-empty arc_cmp q)))

is_same : (i j : ℕ) (q : Arc) → q ≡ arc i j → (nat_eq q.from i && nat_eq q.to j) ≡ true
is_same i j q e = and_from _ _ (eq-eqb q.from i (ap (λ (x : Arc). x.from) e)) (eq-eqb q.to j (ap (λ (x : Arc). x.to) e))

same_is : (i j : ℕ) (q : Arc) → (nat_eq q.from i && nat_eq q.to j) ≡ true → q ≡ arc i j
same_is i j q h =
    let both = and_parts _ _ h in
    let e : q.from ≡ i = eqb-true q.from i both.0 in
    let f : q.to ≡ j = eqb-true q.to j both.1 in
    λ x. arc (e x) (f x)

-- one more arc passes
pub arcs_where-insert : (n : ℕ) (old new : ℕ → ℕ → Bool) (i j : ℕ) → i ≤ n + 1 → j ≤ n + 1
    → ((k m : ℕ) → k ≤ n + 1 → m ≤ n + 1 → new k m ≡ ((nat_eq k i && nat_eq m j) || old k m))
    → arcs_where n new ≡ set.insert (arcs_where n old) (arc i j)
arcs_where-insert n old new i j a b one_more =
    same_as_where n new (set.insert (arcs_where n old) (arc i j))
    (λ q h.
    set.contains-insert arc_cmp_total (arcs_where n old) (arc i j) q
    ∙ elim (or_cases _ _ (sym (one_more q.from q.to h.from h.to) ∙ h.passes)) [
      | inl e ↦ or_left _ _ (same_arcs_are_tied q (arc i j) (same_is i j q e))
      | inr e ↦ or_right _ _ (held_where n old q (record { from = h.from; to = h.to; passes = e }))
    ])
    (λ q h.
    elim (or_cases _ _ (sym (set.contains-insert arc_cmp_total (arcs_where n old) (arc i j) q) ∙ h)) [
      | inl e ↦
          let same : q ≡ arc i j = tied_arcs_are_same q (arc i j) e in
          let passes : new i j ≡ true = one_more i j a b ∙ or_left _ _ (is_same i j (arc i j) refl) in
          subst (IsArcWhere n new) (sym same) (record { from = a; to = b; passes = passes })
      | inr e ↦
          let kept = where_held n old q e in
          record { from = kept.from; to = kept.to; passes = one_more q.from q.to kept.from kept.to ∙ or_right _ _ kept.passes }
    ])

-- one arc passes no more
pub arcs_where-remove : (n : ℕ) (old new : ℕ → ℕ → Bool) (i j : ℕ)
    → ((k m : ℕ) → k ≤ n + 1 → m ≤ n + 1 → new k m ≡ (not (nat_eq k i && nat_eq m j) && old k m))
    → arcs_where n new ≡ set.remove (arcs_where n old) (arc i j)
arcs_where-remove n old new i j one_less =
    same_as_where n new (set.remove (arcs_where n old) (arc i j))
    (λ q h.
    let both = and_parts _ _ (sym (one_less q.from q.to h.from h.to) ∙ h.passes) in
    set.contains-remove arc_cmp_total (arcs_where n old) (arc i j) q
    ∙ and_from _ _
    (not_from_false _ (false_from_ne_true _ (λ e. true≢false (sym (is_same i j q (tied_arcs_are_same q (arc i j) e)) ∙ not-true _ both.0))))
    (held_where n old q (record { from = h.from; to = h.to; passes = both.1 })))
    (λ q h.
    let both = and_parts _ _ (sym (set.contains-remove arc_cmp_total (arcs_where n old) (arc i j) q) ∙ h) in
    let kept = where_held n old q both.1 in
    record {
      from = kept.from;
      to = kept.to;
      passes =
          one_less q.from q.to kept.from kept.to
          ∙ and_from _ _
          (not_from_false _ (false_from_ne_true _ (λ e. true≢false (sym (same_arcs_are_tied q (arc i j) (same_is i j q e)) ∙ not-true _ both.0))))
          kept.passes;
    })

-- ---- as bits

bit_is_place : (k m i j : ℕ) → k ≤ 301 → i ≤ 301 → (bit_of k m == bit_of i j) ≡ (nat_eq k i && nat_eq m j)
bit_is_place k m i j low high =
    both_ways _ _
    (λ h.
    let e : 320 * m + k ≡ 320 * j + i = eqb-true _ _ h in
    and_from _ _ (eq-eqb k i (omega arith)) (eq-eqb m j (omega arith)))
    (λ h.
    let both = and_parts _ _ h in
    let e : k ≡ i = eqb-true k i both.0 in
    let f : m ≡ j = eqb-true m j both.1 in
    eq-eqb _ _ (λ x. 320 * f x + e x))

pub arcs_of-none : (n count : ℕ) → arcs_of n (replicate count 0) ≡ set.empty
arcs_of-none n count =
    arcs_where-none n (λ i j. has_bit (replicate count 0) (bit_of i j)) (λ i j _ _.
    ap (λ w. bit_at w (bit_of i j % 64) == 1) (get_or-zeros count (bit_of i j / 64)) ∙ ap (λ b. b == 1) (bit_at-zero (bit_of i j % 64)))

pub arcs_of-insert : (n : ℕ) (old new : List ℕ) (i j : ℕ) → n ≤ 300 → i ≤ n + 1 → j ≤ n + 1
    → ((y : ℕ) → has_bit new y ≡ (y == bit_of i j || has_bit old y)) → arcs_of n new ≡ set.insert (arcs_of n old) (arc i j)
arcs_of-insert n old new i j small a b set =
    arcs_where-insert n (λ i j. has_bit old (bit_of i j)) (λ i j. has_bit new (bit_of i j)) i j a b
    (λ k m low high. set (bit_of k m) ∙ ap (λ c. c || has_bit old (bit_of k m)) (bit_is_place k m i j (omega arith) (omega arith)))

pub arcs_of-remove : (n : ℕ) (old new : List ℕ) (i j : ℕ) → n ≤ 300 → i ≤ n + 1
    → ((y : ℕ) → has_bit new y ≡ (not (y == bit_of i j) && has_bit old y)) → arcs_of n new ≡ set.remove (arcs_of n old) (arc i j)
arcs_of-remove n old new i j small a cleared =
    arcs_where-remove n (λ i j. has_bit old (bit_of i j)) (λ i j. has_bit new (bit_of i j)) i j
    (λ k m low high. cleared (bit_of k m) ∙ ap (λ c. not c && has_bit old (bit_of k m)) (bit_is_place k m i j (omega arith) (omega arith)))
