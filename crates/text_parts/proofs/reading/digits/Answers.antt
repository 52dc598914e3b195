use Rattle.std.proofs.Common.{sym, ◌∙◌}
use Rattle.std.proofs.lemmas.List.{nil_from_length}
use Rattle.text_parts.proofs.Steps.{digits_more, digits_stop, digits_end}
use Rattle.text_parts.proofs.reading.digits.Goals as goal
use Rattle.text_parts.proofs.reading.digits.Goals.{in-Some+in-None, in_default}

pub loop-b-preserved : goal.loop-b-preserved
loop-b-preserved c =
    sym (digits_more c.args.max c.loop-b.number c.in-Some.b.now c.in-Some-longer.next c.loop-b.rest.now c.in-Some.after.now c.in-Some.ensures.cases.0 (sym c.in-Some-longer.ensures)) ∙ c.loop-b.invariant

pub returns : goal.returns
returns c =
    elim c.match-split_first.branch [
      | in-Some+in-None w ↦ sym (digits_stop c.args.max c.loop-b.number w.in-Some.b.now c.loop-b.rest.now w.in-Some.after.now w.in-Some.ensures.cases.0 (sym w.in-None.ensures)) ∙ c.loop-b.invariant
      | in_default w ↦ sym (digits_end c.args.max c.loop-b.number c.loop-b.rest.now (nil_from_length c.loop-b.rest.now w.in_default.ensures.cases)) ∙ c.loop-b.invariant
    ]
