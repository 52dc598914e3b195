-- A set of arcs between the places of an instance, and the bits that keep it.
use Rattle.std.specs.Prelude.{ℕ, ◌+◌, ◌*◌, Bool, List, filter, flat_map, map, refl}
use Rattle.std.specs.Coded.{Coded, code_by, coded×, coded_ℕ}
use Rattle.std.specs.FinSet as set
use Rattle.std.specs.List.{range_with_len}
use Rattle.orienteering.specs.Arc.{Arc, arc, ArcSet, arc_set_code}
use Rattle.bit_sets.specs.Words.{has_bit}

-- arcs between the places of an instance with this number of calls
pub record ArcTable : Type 0 where
  pub calls : ℕ
  pub arcs : ArcSet

abbrev pub table_code : Coded ArcTable
table_code =
    code_by (ℕ × ArcSet) (coded× coded_ℕ arc_set_code) (λ t. (t.calls, t.arcs)) (λ p. record { calls = p.0; arcs = p.1 }) (λ _. refl)

-- the places of an instance with n calls, and every pair of them
abbrev pub all_places : ℕ → List ℕ
all_places n = range_with_len 0 (n + 2)

abbrev pub all_pairs : ℕ → List Arc
all_pairs n = flat_map (λ i. map (arc i) (all_places n)) (all_places n)

-- the arcs between them that pass a test
unfoldable pub arcs_where : ℕ → (ℕ → ℕ → Bool) → ArcSet
arcs_where n test = set.from_list (filter (λ a. test a.from a.to) (all_pairs n))

-- the bit of an arc: 320 bits for each place that is entered
abbrev pub bit_of : ℕ → ℕ → ℕ
bit_of i j = 320 * j + i

-- the arcs whose bits are set
abbrev pub arcs_of : ℕ → List ℕ → ArcSet
arcs_of n words = arcs_where n (λ i j. has_bit words (bit_of i j))
