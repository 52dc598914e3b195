use Rattle.std.proofs.Common.{sym, ◌∙◌}
use Rattle.std.proofs.lemmas.List.{nil_from_length}
use Rattle.text_parts.proofs.Steps.{word_at_end, word_at_other, word_at_same, word_at_all}
use Rattle.text_parts.proofs.reading.word.Goals as goal

pub returns-in_default : goal.returns-in_default
returns-in_default c = sym c.loop-b.invariant ∙ word_at_end c.args.text.now c.loop-b.b-index c.loop-b.rest.now c.loop-b-test.true (nil_from_length c.loop-b.rest.now c.in_default.ensures.cases)

pub returns-then-first-b : goal.returns-then-first-b
returns-then-first-b c =
    sym c.loop-b.invariant ∙ word_at_other c.args.text.now c.loop-b.b-index c.in-Some.first.now c.loop-b.rest.now c.in-Some.after.now c.loop-b-test.true c.in-Some.ensures.cases.0 c.if-first-b.true

pub loop-b-preserved : goal.loop-b-preserved
loop-b-preserved c =
    sym (word_at_same c.args.text.now c.loop-b.b-index c.in-Some.first.now c.loop-b.rest.now c.in-Some.after.now c.loop-b-test.true c.in-Some.ensures.cases.0 c.if-first-b.false) ∙ c.loop-b.invariant

pub returns : goal.returns
returns c = sym c.loop-b.invariant ∙ word_at_all c.args.text.now c.loop-b.b-index c.loop-b.rest.now c.loop-b-test.false
