use Rattle.std.proofs.Common.{take}
use Rattle.label_engine.specs.BoundedRows.{CallLayer}
use Rattle.label_engine.specs.Known.{Knows}
use Rattle.label_engine.proofs.bounded_rows.gather.Given as goal

abbrev pub invariant-loop-place : goal.invariant-loop-place
invariant-loop-place g l = record {
  layer : CallLayer g.R.Resource.rules (g.M.Moves.moves l.moves) g.R.Resource.fits l.fn.layer.hops l.fn.layer.start (take l.fn.layer.end l.labels) l.labels l.candidates.items l.to l.place;
  known : Knows (g.M.Moves.moves l.moves) l.to l.known;
}
