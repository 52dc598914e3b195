use Rattle.std.proofs.Common.{arith}
use Rattle.command_line.proofs.Numbers.{number_between-none, number_between-some}
use Rattle.command_line.proofs.values.number_from_word.Goals as goal

pub returns-in-Ok-clause-value : goal.returns-in-Ok-clause-value
returns-in-Ok-clause-value c =
    let read = c.in-Ok.ensures.value.0 in
    number_between-some c.args.low c.args.high c.args.text.now c.in-Ok.number read.0.0 read.1 c.if-low-number.true c.if-number-high.true

pub returns-in_default-3-clause-value : goal.returns-in_default-3-clause-value
returns-in_default-3-clause-value c =
    let high = c.ranges.high.fits in
    number_between-none c.args.low c.args.high c.args.text.now (λ h. let most = h.1 in c.in_default.ensures.value.0 (h.0, omega (arith, high, most)))
