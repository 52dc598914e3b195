use Rattle.std.proofs.Common.{◌≤◌, length}
use Rattle.edge_core.specs.Streams.{Gives}
use Rattle.edge_core.proofs.streams.read_front.Given as goal

-- the bytes so far are what the reader gave, and no more than is wanted
abbrev pub invariant-loop : goal.invariant-loop
invariant-loop g l = record {
  within : length l.bytes.items ≤ l.limit;
  given : Gives l.bytes.items (g.T.Read.remaining l.initial.reader) (g.T.Read.remaining l.reader);
}
