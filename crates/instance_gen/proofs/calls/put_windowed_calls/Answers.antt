use Rattle.std.proofs.Common.{ℕ, ◌+◌, ◌-◌, ◌++◌, sym, ap, ◌∙◌, arith}
use Rattle.std.proofs.lemmas.List.{append-nil}
use Rattle.instance_gen.proofs.Draws.{windowed_text, windowed_put, windowed_text-none}
use Rattle.instance_gen.proofs.calls.put_windowed_calls.Goals as goal

pub loop-number-preserved : goal.loop-number-preserved
loop-number-preserved c =
    let number = c.loop-number.number in
    let put = windowed_put c.loop-number.out.items c.put_windowed_call.new.out.items (number + 1) c.loop-number.draws number c.args.calls c.loop-number-test.true c.in_ok-put_windowed_call.ensures.text in
    ap (λ (draw : ℕ). c.put_windowed_call.new.out.items ++ windowed_text (number + 1 + 1) draw (c.args.calls - (number + 1))) c.put_windowed_call.ensures.drawn ∙ put ∙ c.loop-number.invariant

pub returns : goal.returns
returns c =
    let number = c.loop-number.number in
    let none = windowed_text-none (number + 1) c.loop-number.draws (c.args.calls - number) (omega arith) in
    sym (append-nil c.loop-number.out.items) ∙ ap (λ x. c.loop-number.out.items ++ x) (sym none) ∙ c.loop-number.invariant
