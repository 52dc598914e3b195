-- Branches whose cuts are fronts of one path.
use Rattle.std.specs.Prelude.{ℕ, ◌≤◌, List, [], ◌∷◌, map, take}
use Rattle.orienteering.specs.Region.{Region}
use Rattle.orienteering.specs.Decision.{Branch}
use Rattle.orienteering.specs.declared.CutOnPath.{CutOnPath}
use Rattle.proof_check.specs.Waiting.{branch}
use Rattle.proof_check.specs.declared.pending.Waiting.{Waiting}

abbrev pub branch_of : List CutOnPath → Waiting → Branch Region
branch_of path w = branch w.context (take w.cuts path) w.under_cut

abbrev pub branches_of : List CutOnPath → List Waiting → List (Branch Region)
branches_of path waiting = map (branch_of path) waiting

-- each has no more cuts than the one before it, and the first no more than this
abbrev pub AreNested : ℕ → List Waiting → Type 0
AreNested most [] = Unit {0}
AreNested most (w ∷ ws) = (w.cuts ≤ most) × AreNested w.cuts ws
