-- Used arcs as the place after each call and the place before it.
use Rattle.std.specs.Prelude.{◌≡◌, ℕ, ◌+◌, ◌≤◌, Bool, ◌&&◌, List, length, slice_index, nat_eq, nat_le, if◌then◌else◌, IsTrue}
use Rattle.std.specs.FinSet as set
use Rattle.std.specs.List.{list_any}
use Rattle.orienteering.specs.Instance.{IsArc, is_call, origins, targets}
use Rattle.orienteering.specs.Arc.{arc, ArcSet}
use Rattle.bit_sets.specs.ArcTable.{arcs_where}

-- the place after a call is 0 where there is none, and the place before it n + 1; the start may have many places after it
abbrev pub is_link : ℕ → List ℕ → List ℕ → ℕ → ℕ → Bool
is_link n next previous i j =
    if nat_eq i 0 then is_call n j && nat_eq (slice_index previous j) 0 else nat_le 1 j && nat_eq (slice_index next i) j

abbrev pub links : ℕ → List ℕ → List ℕ → ArcSet
links n next previous = arcs_where n (is_link n next previous)

-- some arc of the set leaves the place, and some enters it
abbrev pub has_arc_out : ℕ → ArcSet → ℕ → Bool
has_arc_out n used i = list_any (λ j. set.contains used (arc i j)) (targets n)

abbrev pub has_arc_into : ℕ → ArcSet → ℕ → Bool
has_arc_into n used j = list_any (λ i. set.contains used (arc i j)) (origins n)

pub record AreLinks (n : ℕ) (next previous : List ℕ) : Type 0 where
  pub small : n ≤ 300
  pub next_places : length next ≡ n + 2
  pub previous_places : length previous ≡ n + 2
  pub next_high : (i : ℕ) → i ≤ n + 1 → slice_index next i ≤ n + 1
  pub previous_high : (j : ℕ) → j ≤ n + 1 → slice_index previous j ≤ n + 1
  pub end : slice_index next (n + 1) ≡ 0
  pub moves : (i : ℕ) → 1 ≤ i → i ≤ n → slice_index next i ≡ i → ⊥
  pub back : (i j : ℕ) → 1 ≤ i → i ≤ n → 1 ≤ j → j ≤ n → slice_index next i ≡ j → slice_index previous j ≡ i
  pub forth : (i j : ℕ) → 1 ≤ i → i ≤ n → 1 ≤ j → j ≤ n → slice_index previous j ≡ i → slice_index next i ≡ j

-- the arcs lead between the places of n calls, and each call has at most one into it and at most one out of it
pub record AreSingle (n : ℕ) (used : ArcSet) : Type 0 where
  pub arcs : (i j : ℕ) → IsTrue (set.contains used (arc i j)) → IsArc n i j
  pub one_out : (i j k : ℕ) → (i ≡ 0 → ⊥) → IsTrue (set.contains used (arc i j)) → IsTrue (set.contains used (arc i k)) → j ≡ k
  pub one_in : (i j k : ℕ) → (k ≡ n + 1 → ⊥) → IsTrue (set.contains used (arc i k)) → IsTrue (set.contains used (arc j k)) → i ≡ j
