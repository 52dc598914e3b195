use Rattle.std.proofs.Common.{◌≡◌, map, take}
use Rattle.dual_master.specs.Sigma.{is_open_tour}
use Rattle.dual_master.proofs.open_tours.open_flags.Given as goal

abbrev pub invariant-loop-place : goal.invariant-loop-place
invariant-loop-place l = l.flags.items ≡ map (λ c. is_open_tour l.inst l.ctx c.0) (take l.place l.pool)
