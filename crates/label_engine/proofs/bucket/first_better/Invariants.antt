use Rattle.std.proofs.Common.{◌≡◌, false, take}
use Rattle.std.specs.List.{list_any}
use Rattle.label_engine.specs.Offer.{beats}
use Rattle.label_engine.proofs.bucket.first_better.Given as goal

abbrev pub invariant-loop-index : goal.invariant-loop-index
invariant-loop-index g l = list_any (beats g.R.Resource.rules l.state) (take l.index l.rivals) ≡ false
