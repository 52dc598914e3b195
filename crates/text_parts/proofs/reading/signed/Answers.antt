use Rattle.std.proofs.Common.{sym}
use Rattle.text_parts.proofs.Steps.{signed_minus, signed_plus}
use Rattle.text_parts.proofs.reading.signed.Goals as goal

pub returns-in-Some : goal.returns-in-Some
returns-in-Some c = rw (signed_minus c.args.bytes.now c.in-Some.rest.now (sym c.in-Some.ensures)) c.below_zero.ensures

pub returns-in-None : goal.returns-in-None
returns-in-None c = rw (signed_plus c.args.bytes.now (sym c.in-None.ensures)) c.not_below_zero.ensures
