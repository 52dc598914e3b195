use Rattle.std.proofs.Common.{◌≡◌, ◌++◌, map, take}
use Rattle.label_engine.proofs.bucket.add_rivals.Given as goal

abbrev pub invariant-loop-label : goal.invariant-loop-label
invariant-loop-label g l = l.rivals.items ≡ l.fn.rivals.items ++ map (λ label. label.state) (take l.label-index l.bucket)
