use Rattle.std.proofs.Common.{◌≡◌, drop}
use Rattle.std.specs.List.{concat}
use Rattle.orienteering.specs.PlanCheck.{is_one_of}
use Rattle.insert_heur.proofs.tours.some_visits.Given as goal

abbrev pub invariant-loop-tour : goal.invariant-loop-tour
invariant-loop-tour l = is_one_of (concat l.tours) l.call ≡ is_one_of (concat (drop l.tour-index l.tours)) l.call
