use Rattle.std.proofs.Common.{arith}
use Rattle.insert_heur.proofs.Moved.{all_settled}
use Rattle.insert_heur.proofs.moves.sweep.Goals as goal

pub returns : goal.returns
returns c =
    let held = c.loop-call.invariant in
    record {
      valid = held.valid;
      same_calls = held.same_calls;
      no_dearer = held.no_dearer;
      less = held.less;
      settled = λ none. all_settled c.args.inst.now c.loop-call.best c.loop-call.call held.valid
          (omega (arith, c.loop-call-test.false, c.calls-call-end.ensures.value)) (held.settled none);
    }
