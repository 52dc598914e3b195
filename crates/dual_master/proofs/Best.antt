-- A bound that is no worse than the start's, and the gap in the terms of the definitions.
use Rattle.std.proofs.Common.{◌≡◌, Option, ℤ, pos, ◌*ℤ◌, ◌-ℤ◌, ◌≤ℤ◌, ap, sym, subst, ◌∙◌, arith}
use Rattle.std.proofs.lemmas.Int.{ints}
use Rattle.std.specs.Prelude.{List}
use Rattle.orienteering.specs.Instance.{Problem}
use Rattle.orienteering.specs.Price.{bound}
use Rattle.orienteering.specs.Region.{Region}
use Rattle.orienteering.specs.declared.Price.{Price}
use Rattle.pool_cols.specs.Pool.{Column}
use Rattle.dual_master.specs.Sigma.{IsPoolSigma}
use Rattle.dual_master.specs.Candidate.{IsRated, IsNoWorse}
use Rattle.dual_master.proofs.Values.{sigma_once}

-- what is at most the bound of the rated start is no worse
pub no_worse : (p : Problem) (r : Region) (pool : List Column) (start price : Price) (sigma : Option ℤ) (value less : ℤ) → price ≡ start →
    IsRated p r pool price sigma value → less ≤ℤ value → IsNoWorse p r pool start less
no_worse p r pool start price sigma value less e rated h =
    λ own k.
    let same = sigma_once p r price pool sigma own rated.sigma_is (subst (λ q. IsPoolSigma p r q pool own) (sym e) k) in
    let is : value ≡ bound start own r.fewest r.most = rated.bound_is ∙ ap (λ s. bound price s r.fewest r.most) same ∙ ap (λ q. bound q own r.fewest r.most) e in
    omega (arith, ints, is, h)

pub gap_is : (g b bound w worth : ℤ) → g ≡ (pos 1000000 *ℤ b) -ℤ w → b ≡ bound → w ≡ worth → g ≡ (pos 1000000 *ℤ bound) -ℤ worth
gap_is g b bound w worth e f h = e ∙ ap (λ x. (pos 1000000 *ℤ x) -ℤ w) f ∙ ap (λ y. (pos 1000000 *ℤ bound) -ℤ y) h
