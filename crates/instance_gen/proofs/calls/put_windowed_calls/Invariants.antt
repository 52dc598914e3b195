use Rattle.std.proofs.Common.{◌≡◌, ◌+◌, ◌-◌, ◌*◌, ◌++◌}
use Rattle.draws.specs.Draws.{draws_behind}
use Rattle.instance_gen.specs.Generated.{lines_text, windowed_calls}
use Rattle.instance_gen.proofs.calls.put_windowed_calls.Given as goal

-- what is put so far, and what is still to put
abbrev pub invariant-loop-number : goal.invariant-loop-number
invariant-loop-number l =
    l.out.items ++ lines_text (windowed_calls (l.number + 1) (draws_behind l.draws (4 * (l.calls - l.number))))
    ≡ l.fn.out.items ++ lines_text (windowed_calls 1 (draws_behind l.initial.draws (4 * l.calls)))
