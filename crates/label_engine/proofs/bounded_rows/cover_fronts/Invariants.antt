use Rattle.std.proofs.Common.{◌≡◌, ◌≤◌, length, vec_len}
use Rattle.label_engine.specs.BoundedRows.{AreRowsOf}
use Rattle.label_engine.specs.Layer.{IsLastLayer, Covering}
use Rattle.label_engine.proofs.bounded_rows.cover_fronts.Given as goal

abbrev pub invariant-loop-length : goal.invariant-loop-length
invariant-loop-length g l = record {
  covering : Covering g.R.Resource.rules (g.M.Moves.moves l.moves) l.length l.labels.items;
  layer : IsLastLayer l.length l.start l.labels.items;
  start : l.start ≤ vec_len l.labels;
  few : length l.labels.items ≤ l.limit;
  count_rows : vec_len l.rows ≡ l.calls;
  rows : AreRowsOf l.labels.items l.rows.items;
}
