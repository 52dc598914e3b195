use Rattle.std.proofs.Common.{◌≡◌, ◌-◌, ◌≤◌, drop, length}
use Rattle.instance_files.specs.NextField.{fields_ahead, behind_line}
use Rattle.instance_files.specs.Kept.{kept}
use Rattle.instance_files.proofs.KeptFields.{kept_with}
use Rattle.instance_files.proofs.lines.read_line.Given as goal

abbrev pub invariant-loop-start : goal.invariant-loop-start
invariant-loop-start l = record {
  within : l.at ≤ length l.bytes;
  from : l.from ≤ l.at;
  fields : kept_with l.fields (fields_ahead (drop l.at l.bytes)) ≡ kept (fields_ahead (drop l.from l.bytes));
  same_line : behind_line (drop l.at l.bytes) ≡ behind_line (drop l.from l.bytes);
}

abbrev pub decreases-loop-start : goal.decreases-loop-start
decreases-loop-start l = length l.bytes - l.at
