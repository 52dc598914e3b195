use Rattle.std.proofs.Common.{◌≡◌, ◌+◌, vec_len}
use Rattle.label_engine.specs.Layer.{FirstLayer}
use Rattle.label_engine.specs.Rivals.{AreAllRivals}
use Rattle.label_engine.proofs.layer.first_layer.Given as goal

abbrev pub invariant-loop-index : goal.invariant-loop-index
invariant-loop-index g l = record {
  first : FirstLayer g.R.Resource.rules (g.M.Moves.moves l.moves) g.R.Resource.fits l.labels.items (l.index + 1);
  count : vec_len l.rivals ≡ l.index;
  rivals : AreAllRivals g.R.Resource.rules l.labels.items l.rivals.items;
}
