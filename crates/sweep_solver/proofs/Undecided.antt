-- An undecided arc is an arc.
use Rattle.std.proofs.Common.{◌≡◌, ℕ, ◌+◌, ◌<◌, ◌≤◌, true, false, true≢false, not, sym, ◌∙◌, arith}
use Rattle.std.proofs.lemmas.Bool.{and_parts, false_from_ne_true}
use Rattle.orienteering.specs.Instance.{IsArc, is_arc}
use Rattle.orienteering.specs.Region.{Region, is_used, is_shut, is_open, is_undecided}
use Rattle.orienteering.proofs.ArcSets.{arc_tested}

pub undecided_is_arc : (r : Region) (i j : ℕ) → is_undecided r i j ≡ true → IsArc r.calls i j
undecided_is_arc r i j h =
    arc_tested r.calls i j (and_parts (is_arc r.calls i j) (not (is_shut r i j)) (and_parts (is_open r i j) (not (is_used r i j)) h).0).0

pub none_after : (r : Region) (i : ℕ) → ((k : ℕ) → 1 ≤ k → k < r.calls + 2 → is_undecided r i k ≡ false) → (j : ℕ) →
    is_undecided r i j ≡ false
none_after r i each j =
    false_from_ne_true (is_undecided r i j) (λ h.
    let a = undecided_is_arc r i j h in
    let low : 1 ≤ j = a.low in
    let high : j ≤ r.calls + 1 = a.high in
    true≢false (sym h ∙ each j low (omega arith)))

pub none_at_all : (r : Region) → ((k : ℕ) → k < r.calls + 1 → (j : ℕ) → is_undecided r k j ≡ false) → (i j : ℕ) →
    is_undecided r i j ≡ false
none_at_all r each i j =
    false_from_ne_true (is_undecided r i j) (λ h.
    let a = undecided_is_arc r i j h in
    let from : i ≤ r.calls = a.from in
    true≢false (sym h ∙ each i (omega arith) j))
