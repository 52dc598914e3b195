-- A plan with one call more, as the code makes it.
use Rattle.std.proofs.Common.{◌≡◌, ℕ, zero, suc, ◌<◌, ◌≤◌, List, [], ◌∷◌, ◌++◌, length, set, refl, ap, arith}
use Rattle.std.specs.List.{insert}
use Rattle.insert_heur.specs.Places.{tour_at, with_call}

pub with_call-inside : (plan : List (List ℕ)) (call tour position : ℕ) → tour < length plan →
    set plan tour (insert (tour_at plan tour) position call) ≡ with_call plan call tour position
with_call-inside [] call tour position h = absurd (omega arith)
with_call-inside (t ∷ ts) call zero position h = refl
with_call-inside (t ∷ ts) call (suc tour) position h =
    ap (λ rest. t ∷ rest) (with_call-inside ts call tour position (omega arith))

pub with_call-behind : (plan : List (List ℕ)) (call tour position : ℕ) → length plan ≤ tour →
    plan ++ insert (tour_at plan tour) position call ∷ [] ≡ with_call plan call tour position
with_call-behind [] call zero position h = refl
with_call-behind [] call (suc tour) position h = refl
with_call-behind (t ∷ ts) call zero position h = absurd (omega arith)
with_call-behind (t ∷ ts) call (suc tour) position h =
    ap (λ rest. t ∷ rest) (with_call-behind ts call tour position (omega arith))
