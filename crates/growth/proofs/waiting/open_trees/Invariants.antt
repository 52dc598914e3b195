use Rattle.std.proofs.Common.{◌≡◌, [], ◌∷◌, map, replicate}
use Rattle.orienteering.specs.declared.Node.TheVariants.{Left}
use Rattle.growth.proofs.waiting.open_trees.Given as goal

abbrev pub invariant-loop-place : goal.invariant-loop-place
invariant-loop-place l = map (λ t. t.items) l.trees.items ≡ replicate l.place (Left ∷ [])
