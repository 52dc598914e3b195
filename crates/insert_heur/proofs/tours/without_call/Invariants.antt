use Rattle.std.proofs.Common.{◌≡◌, ◌++◌, drop}
use Rattle.insert_heur.specs.Improvement.{without_call}
use Rattle.insert_heur.proofs.tours.without_call.Given as goal

abbrev pub invariant-loop-tour : goal.invariant-loop-tour
invariant-loop-tour l = without_call l.plan l.call ≡ l.tours.items ++ without_call (drop l.tour-index l.plan) l.call
