use Rattle.std.proofs.Common.{◌≡◌, ◌+◌, ◌≤◌, ◌++◌, ◌∷◌, [], drop}
use Rattle.orienteering.specs.Instance.{calls}
use Rattle.orienteering.specs.Region.{is_shut}
use Rattle.orienteering.specs.Sigma.{is_open_along}
use Rattle.dual_master.specs.Sigma.{is_open_tour}
use Rattle.dual_master.proofs.open_tours.is_open_tour.Given as goal

abbrev pub invariant-loop-call : goal.invariant-loop-call
invariant-loop-call l = record {
  rest : is_open_along (is_shut l.ctx) l.place (drop l.call-index l.tour ++ (calls l.inst + 1) ∷ []) ≡ is_open_tour l.inst l.ctx l.tour;
  place : l.place ≤ l.ctx.calls;
}
