-- Walks with the clock and the travel so far.
use Rattle.std.specs.Prelude.{ℕ, ◌+◌, ◌*◌, ◌≤◌, List, [], ◌∷◌, length, Option, Some}
use Rattle.std.specs.List.{AllByRecursion}
use Rattle.std.specs.Option.{option_and_then}
use Rattle.orienteering.specs.Instance.{Problem, site, IsCall, travel, next_clock}
use Rattle.orienteering.specs.Limits.{longest_arc}
use Rattle.orienteering.specs.Tour.{stops, tour_time, clock_along}
use Rattle.insert_heur.specs.declared.walk.Standing.{Standing}

abbrev pub stepped : Problem → Standing → ℕ → Option Standing
stepped p s j =
    option_and_then (λ d. Some (record { place = j; clock = d; travelled = s.travelled + travel p s.place j }))
    (next_clock p s.clock s.place j)

abbrev pub walked : Problem → Standing → List ℕ → Option Standing
walked p s [] = Some s
walked p s (j ∷ js) = option_and_then (λ t. walked p t js) (stepped p s j)

-- the travel of a tour, and none where a step is late
abbrev pub time_of : Problem → List ℕ → Option ℕ
time_of p tour =
    option_and_then (λ d. Some (tour_time p tour)) (clock_along p (site p 0).opening 0 (stops p tour))

-- no tour that repeats no call travels farther
abbrev pub farthest : ℕ
farthest = longest_arc * 301

-- lists of calls that are no longer and no more than the tours of a plan; they may be late, or share calls
pub record AreTours (p : Problem) (tours : List (List ℕ)) : Type 0 where
  pub calls : AllByRecursion (AllByRecursion (IsCall p)) tours
  pub short : AllByRecursion (λ tour. length tour ≤ 300) tours
  pub few : length tours ≤ 32
