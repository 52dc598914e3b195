use Rattle.std.proofs.Common.{◌≡◌, ◌≤◌, [], length, vec_len}
use Rattle.label_engine.specs.Layer.{Whole, IsLastLayer}
use Rattle.label_engine.specs.Rivals.{AreAllRivals}
use Rattle.label_engine.proofs.search.settle.Given as goal

abbrev pub invariant-loop-length : goal.invariant-loop-length
invariant-loop-length g l = record {
  whole : Whole g.R.Resource.rules (g.M.Moves.moves l.moves) l.length l.labels.items;
  layer : IsLastLayer l.length l.start l.labels.items;
  start : l.start ≤ vec_len l.labels;
  few : length l.labels.items ≤ l.limit;
  rows : vec_len l.rivals ≡ l.calls;
  rivals : AreAllRivals g.R.Resource.rules l.labels.items l.rivals.items;
  empty : l.bucket.items ≡ [];
}
