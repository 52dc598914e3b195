use Rattle.std.proofs.Common.{◌≤◌, take, length}
use Rattle.edge_core.specs.Sink.{Gains}
use Rattle.edge_core.proofs.streams.write_whole.Given as goal

-- the writer took the bytes before `done`, and no others
abbrev pub invariant-loop : goal.invariant-loop
invariant-loop g l = record {
  within : l.done ≤ length l.bytes;
  gained : Gains (take l.done l.bytes) (g.W.Write.contents l.initial.writer) (g.W.Write.contents l.writer);
}
