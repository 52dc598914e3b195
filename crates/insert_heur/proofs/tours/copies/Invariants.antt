use Rattle.std.proofs.Common.{◌≡◌, take}
use Rattle.insert_heur.proofs.tours.copies.Given as goal

abbrev pub invariant-loop-tour : goal.invariant-loop-tour
invariant-loop-tour l = l.copies.items ≡ take l.tour-index l.tours
