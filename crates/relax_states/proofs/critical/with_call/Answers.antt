use Rattle.std.proofs.Common.{◌≡◌, length, arith}
use Rattle.relax_states.proofs.Sets.{inserted, pushed}
use Rattle.relax_states.proofs.critical.with_call.Goals as goal

pub returns-then-calls-index : goal.returns-then-calls-index
returns-then-calls-index c =
    inserted c.args.calls.now c.loop-index.more.items c.insert.new.self.items c.loop-index.index c.args.call c.in_ok-insert.ensures.items c.loop-index.invariant.same c.loop-index.invariant.below (λ _. omega arith) (omega arith)

pub returns : goal.returns
returns c =
    let whole : c.loop-index.index ≡ length c.args.calls.now = omega arith in
    pushed c.args.calls.now c.loop-index.more.items c.push.new.self.items c.args.call c.in_ok-push.ensures.items c.loop-index.invariant.same (λ k h. c.loop-index.invariant.below k (omega arith))
