-- Walks along used arcs, from one place to the next.
use Rattle.std.specs.Prelude.{◌≡◌, ℕ, ◌<◌, List, ◌∷◌, ◌++◌, [], length, IsTrue, nat_eq}
use Rattle.std.specs.List.{IsDistinct}
use Rattle.std.specs.declared.option.Option.TheVariants.{None}
use Rattle.orienteering.specs.Instance.{Problem, site}
use Rattle.orienteering.specs.Tour.{clock_along}
use Rattle.orienteering.specs.Region.{Region, is_used, IsUsedPath}

-- a path of used arcs leads from the call back to it, through fewer other calls than there are calls
abbrev pub ComesBack : Region → ℕ → Type 0
ComesBack r c = (cs : List ℕ) × IsUsedPath r c (cs ++ c ∷ []) × (length cs < r.calls)

-- a path of used arcs from the start through this first place repeats no place and has a late step
abbrev pub IsLateFrom : Problem → Region → ℕ → ℕ → Type 0
IsLateFrom p r start first =
    (js : List ℕ) × IsDistinct nat_eq (start ∷ first ∷ js) × IsUsedPath r start (first ∷ js)
    × (clock_along p (site p start).opening start (first ∷ js) ≡ None)

-- some path of used arcs from the place has a late step
abbrev pub StartsLate : Problem → Region → ℕ → Type 0
StartsLate p r start = (first : ℕ) × IsTrue (is_used r start first) × IsLateFrom p r start first
