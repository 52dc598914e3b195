use Rattle.std.proofs.Common.{◌≡◌, ◌++◌, replicate}
use Rattle.report_text.proofs.table.put_right.Given as goal

abbrev pub invariant-loop : goal.invariant-loop
invariant-loop l = l.out.items ≡ l.fn.out.items ++ replicate l.counter 32
