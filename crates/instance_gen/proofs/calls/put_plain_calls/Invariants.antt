use Rattle.std.proofs.Common.{◌≡◌, ◌-◌, ◌*◌, ◌++◌}
use Rattle.draws.specs.Draws.{draws_behind}
use Rattle.instance_gen.specs.Generated.{lines_text, plain_calls}
use Rattle.instance_gen.proofs.calls.put_plain_calls.Given as goal

-- what is put so far, and what is still to put
abbrev pub invariant-loop : goal.invariant-loop
invariant-loop l =
    l.out.items ++ lines_text (plain_calls (draws_behind l.draws (3 * (l.calls - l.counter))))
    ≡ l.fn.out.items ++ lines_text (plain_calls (draws_behind l.initial.draws (3 * l.calls)))
