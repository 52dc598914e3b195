-- The places at which a call can be put into a plan: a tour, and how many of its calls stand before the new one. Tours are
-- counted from 0, and the tour behind the last one is a new one.
use Rattle.std.specs.Prelude.{ℕ, zero, suc, List, [], ◌∷◌, slice_index_or}
use Rattle.std.specs.List.{insert}
use Rattle.orienteering.specs.Instance.{Problem}
use Rattle.orienteering.specs.Tour.{tour_time}

-- a tour of a plan; no calls behind the last one
abbrev pub tour_at : List (List ℕ) → ℕ → List ℕ
tour_at plan tour = slice_index_or plan tour []

-- the plan with the call put in at a place
abbrev pub with_call : List (List ℕ) → ℕ → ℕ → ℕ → List (List ℕ)
with_call [] call tour position = insert [] position call ∷ []
with_call (t ∷ ts) call zero position = insert t position call ∷ ts
with_call (t ∷ ts) call (suc tour) position = t ∷ with_call ts call tour position

-- the travel of a tour of a plan; 0 behind the last one
abbrev pub spent_at : Problem → List (List ℕ) → ℕ → ℕ
spent_at p [] tour = 0
spent_at p (t ∷ ts) zero = tour_time p t
spent_at p (t ∷ ts) (suc tour) = spent_at p ts tour
