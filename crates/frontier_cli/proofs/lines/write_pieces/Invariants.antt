use Rattle.std.proofs.Common.{◌≤◌, take}
use Rattle.std.specs.List.{flat_map}
use Rattle.edge_core.specs.Sink.{Gains}
use Rattle.frontier_cli.specs.Refusal.{piece_text}
use Rattle.frontier_cli.proofs.lines.write_pieces.Given as goal

-- the pieces so far were written
abbrev pub invariant-loop-piece : goal.invariant-loop-piece
invariant-loop-piece g l = record {
  written : Gains (flat_map piece_text (take l.piece-index l.pieces)) (g.E.Sink.state l.initial.err).bytes (g.E.Sink.state l.err).bytes;
  later : (g.E.Sink.state l.initial.err).faults ≤ (g.E.Sink.state l.err).faults;
}
