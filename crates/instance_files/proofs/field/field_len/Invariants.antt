use Rattle.std.proofs.Common.{◌≡◌, ◌+◌, length}
use Rattle.instance_files.specs.Scan.{field_len}
use Rattle.instance_files.proofs.field.field_len.Given as goal

abbrev pub invariant-loop-first : goal.invariant-loop-first
invariant-loop-first l = field_len l.rest + length l.bytes ≡ field_len l.bytes + length l.rest

abbrev pub decreases-loop-first : goal.decreases-loop-first
decreases-loop-first l = length l.rest
