use Rattle.std.proofs.Common.{length, take}
use Rattle.std.specs.List.{All}
use Rattle.label_engine.specs.BoundedRows.{IsLonger, CallLayer}
use Rattle.label_engine.specs.Rivals.{StandsFor}
use Rattle.label_engine.proofs.bounded_rows.extend_to_call.Given as goal

abbrev pub invariant-loop-label : goal.invariant-loop-label
invariant-loop-label g l = record {
  layer : CallLayer g.R.Resource.rules (g.M.Moves.moves l.moves) g.R.Resource.fits l.fn.layer.hops l.fn.layer.start (take l.fn.layer.end l.fn.labels.items) l.labels.items l.candidates.items l.to l.fn.layer.end;
  longer : IsLonger l.fn.labels.items l.labels.items;
  row : All (StandsFor l.labels.items l.to) l.row.items;
}

abbrev pub decreases-loop-label : goal.decreases-loop-label
decreases-loop-label g l = length l.candidates.items
