use Rattle.std.proofs.Common.{◌≡◌, sym, ap, ◌∙◌, Ok, List, ℕ}
use Rattle.text_parts.specs.Reading.{positive_at}
use Rattle.std.proofs.lemmas.List.{nil_from_length}
use Rattle.text_parts.proofs.Numbers.{positive_bounds}
use Rattle.text_parts.proofs.Steps.{positive_nothing, positive_other, positive_first}
use Rattle.text_parts.proofs.reading.positive.Goals as goal

pub returns-in_default-clause-reading : goal.returns-in_default-clause-reading
returns-in_default-clause-reading c = positive_nothing c.args.max c.args.bytes.now (nil_from_length c.args.bytes.now c.in_default.ensures.cases)

pub returns-in-None-clause-reading : goal.returns-in-None-clause-reading
returns-in-None-clause-reading c = positive_other c.args.max c.in-Some.b.now c.args.bytes.now c.in-Some.rest.now c.in-Some.ensures.cases.0 (sym c.in-None.ensures)

reads : (c : goal.After-digits) → positive_at c.args.max c.args.bytes.now ≡ Ok (c.digits.result.0, c.digits.result.1.now)
reads c = positive_first c.args.max c.in-Some.b.now c.in-Some-first_digit.first c.args.bytes.now c.in-Some.rest.now c.in-Some.ensures.cases.0 (sym c.in-Some-first_digit.ensures) ∙ ap (λ (x : ℕ × List ℕ). Ok x) (sym c.digits.ensures)

pub returns-in-Some-first_digit-clause-reading : goal.returns-in-Some-first_digit-clause-reading
returns-in-Some-first_digit-clause-reading c = reads c

pub returns-in-Some-first_digit-clause-bounds : goal.returns-in-Some-first_digit-clause-bounds
returns-in-Some-first_digit-clause-bounds c = positive_bounds c.args.max c.ranges.max.fits c.args.bytes.now c.digits.result.1.now c.digits.result.0 (reads c)
