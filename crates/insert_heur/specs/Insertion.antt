-- The plan that grows by one of the three best candidates after the other, as the draws of a seed choose.
use Rattle.std.specs.Prelude.{◌≡◌, ℕ, ◌%◌, List, [], ◌∷◌, length, take, slice_get, Option, None, Some}
use Rattle.orienteering.specs.Instance.{Problem, calls}
use Rattle.orienteering.specs.Tour.{IsPlan}
use Rattle.insert_heur.specs.Places.{with_call}
use Rattle.draws.specs.Draws.{draws}
use Rattle.insert_heur.specs.Candidates.{candidates, ranked}
use Rattle.insert_heur.specs.declared.candidates.Weight.{Weight}
use Rattle.insert_heur.specs.declared.candidates.Candidate.{Candidate}

-- the candidate whose number, from 0, is the rest of the draw
abbrev pub chosen : ℕ → List Candidate → Option Candidate
chosen draw [] = None
chosen draw (c ∷ cs) = slice_get (c ∷ cs) (draw % length (c ∷ cs))

-- the plan after one round for each draw, or once no candidate is left
abbrev pub grown : Problem → Weight → List (List ℕ) → List ℕ → List (List ℕ)
grown p w plan [] = plan
grown p w plan (draw ∷ later) =
    elim (chosen draw (take 3 (ranked p w plan))) [
      | None ↦ plan
      | Some c ↦ grown p w (with_call plan c.call c.tour c.position) later
    ]

-- each round puts in a call, so there are no more rounds than calls
abbrev pub insertion : Problem → ℕ → Weight → List (List ℕ)
insertion p seed w = grown p w [] (draws seed (calls p))

-- it is a plan, and no candidate is left
pub record IsFinished (p : Problem) (w : Weight) (plan : List (List ℕ)) : Type 0 where
  pub valid : IsPlan p plan
  pub none_left : candidates p w plan ≡ []

abbrev pub InsertionsFinish : Type 0
InsertionsFinish = (p : Problem) (seed : ℕ) (w : Weight) → IsFinished p w (insertion p seed w)
