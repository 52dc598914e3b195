use Rattle.std.proofs.Common.{◌≡◌, [], ◌+◌, ◌≤◌, vec_len}
use Rattle.label_engine.specs.BoundedRows.{AreRowsOf, LongerFronts}
use Rattle.label_engine.proofs.bounded_rows.longer_fronts.Given as goal

abbrev pub invariant-loop-index : goal.invariant-loop-index
invariant-loop-index g l = record {
  longer : LongerFronts g.R.Resource.rules (g.M.Moves.moves l.moves) g.R.Resource.fits l.fn.layer.hops l.fn.layer.start l.fn.labels.items l.labels.items (l.index + 1);
  grows : vec_len l.fn.labels ≤ vec_len l.labels;
  few : vec_len l.labels ≤ l.limit;
  count_rows : vec_len l.rows ≡ (g.M.Moves.moves l.moves).calls;
  rows : AreRowsOf l.labels.items l.rows.items;
  empty : l.candidates.items ≡ [];
}
