-- The branches of a tree that wait to be read.
use Rattle.std.specs.Prelude.{ℕ, Bool, List, ℤ, refl}
use Rattle.std.specs.Coded.{Coded, code_by, coded×, coded_ℕ, coded_ℤ, coded_bool, coded_list}
use Rattle.orienteering.specs.Region.{Region, region_code}
use Rattle.orienteering.specs.Decision.{Branch}
use Rattle.orienteering.specs.declared.CutOnPath.{CutOnPath}

abbrev pub branch : Region → List CutOnPath → Bool → Branch Region
branch region cuts under_cut = record { region = region; cuts = cuts; under_cut = under_cut }

-- the cuts on the path to the node in hand, and the branches that wait, the nearest first
pub record Branches : Type 0 where
  pub cuts : List CutOnPath
  pub branches : List (Branch Region)

abbrev pub cut_code : Coded CutOnPath
cut_code =
    code_by (ℕ × (ℕ × ℤ)) (coded× coded_ℕ (coded× coded_ℕ coded_ℤ))
    (λ c. (c.alpha, (c.beta, c.bound))) (λ t. record { alpha = t.0; beta = t.1.0; bound = t.1.1 }) (λ _. refl)

abbrev pub branch_code : Coded (Branch Region)
branch_code =
    code_by (Region × (List CutOnPath × Bool)) (coded× region_code (coded× (coded_list cut_code) coded_bool))
    (λ b. (b.region, (b.cuts, b.under_cut))) (λ t. record { region = t.0; cuts = t.1.0; under_cut = t.1.1 }) (λ _. refl)

abbrev pub branches_code : Coded Branches
branches_code =
    code_by (List CutOnPath × List (Branch Region)) (coded× (coded_list cut_code) (coded_list branch_code))
    (λ b. (b.cuts, b.branches)) (λ t. record { cuts = t.0; branches = t.1 }) (λ _. refl)
