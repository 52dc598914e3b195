use Rattle.std.proofs.Common.{◌≡◌, ◌-◌}
use Rattle.text_parts.specs.Reading.{list_at}
use Rattle.text_parts.proofs.Loops.{with_front}
use Rattle.text_parts.proofs.part.list.Given as goal

abbrev pub invariant-loop : goal.invariant-loop
invariant-loop g l = with_front l.items.items (list_at (l.count - l.counter) g.P.ReadPart.reading l.rest) ≡ list_at l.count g.P.ReadPart.reading l.bytes
