-- The branch of a whole tree, and the branch below a cut.
use Rattle.std.specs.Prelude.{ℕ, Bool, true, false, List, [], ◌∷◌, ◌++◌, ℤ, refl}
use Rattle.std.specs.Coded.{Coded, code_by, coded×, coded_ℕ, coded_ℤ, coded_bool, coded_list}
use Rattle.orienteering.specs.Decision.{Branch}
use Rattle.orienteering.specs.declared.CutOnPath.{CutOnPath}

abbrev pub root_branch : {R : Type 0} → R → Branch R
root_branch r = record { region = r; cuts = []; under_cut = false }

abbrev pub branch_below : {R : Type 0} → Branch R → CutOnPath → Branch R
branch_below b cut = record { region = b.region; cuts = b.cuts ++ cut ∷ []; under_cut = true }

abbrev pub cut_code : Coded CutOnPath
cut_code =
    code_by (ℕ × (ℕ × ℤ)) (coded× coded_ℕ (coded× coded_ℕ coded_ℤ))
    (λ c. (c.alpha, (c.beta, c.bound))) (λ t. record { alpha = t.0; beta = t.1.0; bound = t.1.1 }) (λ _. refl)

abbrev pub branch_code : {R : Type 0} → Coded R → Coded (Branch R)
branch_code {R} code =
    code_by (R × (List CutOnPath × Bool)) (coded× code (coded× (coded_list cut_code) coded_bool))
    (λ b. (b.region, (b.cuts, b.under_cut))) (λ t. record { region = t.0; cuts = t.1.0; under_cut = t.1.1 }) (λ _. refl)
