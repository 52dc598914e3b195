use Rattle.std.proofs.Common.{◌≡◌, ◌+◌, length}
use Rattle.instance_files.specs.Scan.{blanks_len}
use Rattle.instance_files.proofs.field.blanks_len.Given as goal

abbrev pub invariant-loop-first : goal.invariant-loop-first
invariant-loop-first l = blanks_len l.rest + length l.bytes ≡ blanks_len l.bytes + length l.rest

abbrev pub decreases-loop-first : goal.decreases-loop-first
decreases-loop-first l = length l.rest
