use Rattle.std.proofs.Common.{sym}
use Rattle.text_parts.proofs.Steps.{number_zero, number_other}
use Rattle.text_parts.proofs.reading.number.Goals as goal

pub returns-in-Some-clause-reading : goal.returns-in-Some-clause-reading
returns-in-Some-clause-reading c = number_zero c.args.max c.args.bytes.now c.in-Some.rest.now (sym c.in-Some.ensures)

pub returns-in-None-clause-reading : goal.returns-in-None-clause-reading
returns-in-None-clause-reading c = rw (number_other c.args.max c.args.bytes.now (sym c.in-None.ensures)) c.positive.ensures.reading
