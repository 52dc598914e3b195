use Rattle.std.proofs.Common.{ℕ, ◌+◌, ◌-◌, ◌++◌, sym, ap, ◌∙◌, arith}
use Rattle.std.proofs.lemmas.List.{append-nil}
use Rattle.instance_gen.proofs.Draws.{plain_text, plain_put, plain_text-none}
use Rattle.instance_gen.proofs.calls.put_plain_calls.Goals as goal

pub loop-preserved : goal.loop-preserved
loop-preserved c =
    let put = plain_put c.loop.out.items c.put_plain_call.new.out.items c.loop.draws c.loop.counter c.args.calls c.loop-test.true c.in_ok-put_plain_call.ensures.text in
    ap (λ (draw : ℕ). c.put_plain_call.new.out.items ++ plain_text draw (c.args.calls - (c.loop.counter + 1))) c.put_plain_call.ensures.drawn ∙ put ∙ c.loop.invariant

pub returns : goal.returns
returns c =
    let none = plain_text-none c.loop.draws (c.args.calls - c.loop.counter) (omega arith) in
    sym (append-nil c.loop.out.items) ∙ ap (λ x. c.loop.out.items ++ x) (sym none) ∙ c.loop.invariant
