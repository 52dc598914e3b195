use Rattle.std.proofs.Common.{◌≡◌, ◌+◌, ◌≤◌, [], vec_len}
use Rattle.label_engine.specs.Layer.{NextLayer}
use Rattle.label_engine.specs.Rivals.{AreAllRivals}
use Rattle.label_engine.proofs.layer.next_layer.Given as goal

abbrev pub invariant-loop-index : goal.invariant-loop-index
invariant-loop-index g l = record {
  next : NextLayer g.R.Resource.rules (g.M.Moves.moves l.moves) g.R.Resource.fits l.hops l.start l.fn.labels.items l.labels.items (l.index + 1);
  longer : vec_len l.fn.labels ≤ vec_len l.labels;
  few : vec_len l.labels ≤ l.limit;
  rows : vec_len l.rivals ≡ l.calls;
  rivals : AreAllRivals g.R.Resource.rules l.labels.items l.rivals.items;
  empty : l.bucket.items ≡ [];
}
