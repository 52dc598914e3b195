use Rattle.std.proofs.Common.{ap, sym, ◌∙◌, List, ℕ, ◌≤◌, arith}
use Rattle.text_parts.specs.Reading.{word_at, one_of}
use Rattle.text_parts.proofs.Loops.{keyword_first, keyword_goes_on, keyword_stands, keyword_none}
use Rattle.text_parts.proofs.part.find_word.Goals as goal

pub loop-value-init : goal.loop-value-init
loop-value-init g c = (keyword_first g.W.Words.word c.args.bytes.now c.args.values.now, omega arith)

pub returns-in-Ok : goal.returns-in-Ok
returns-in-Ok g c =
    keyword_stands g.W.Words.word c.args.bytes.now c.args.values.now c.loop-value.value-index c.value-item.result c.loop-value.left c.in-Ok.rest.now
    (one_of g.W.Words.word c.args.values.now c.args.bytes.now) c.loop-value-test.true c.value-item.is
    (ap (λ (x : List ℕ). word_at x c.args.bytes.now) (sym c.word.ensures) ∙ c.in-Ok.ensures) c.loop-value.invariant.0

pub loop-value-preserved : goal.loop-value-preserved
loop-value-preserved g c =
    let bound : c.min-left.result ≤ c.loop-value.left = omega (arith, c.min-left.ensures) in (
      rw c.min-left.ensures
          (keyword_goes_on g.W.Words.word c.args.bytes.now c.args.values.now c.loop-value.value-index c.value-item.result c.loop-value.left c.in-Err.stop.left
          (one_of g.W.Words.word c.args.values.now c.args.bytes.now) c.loop-value-test.true c.value-item.is
          (ap (λ (x : List ℕ). word_at x c.args.bytes.now) (sym c.word.ensures) ∙ c.in-Err.ensures) c.loop-value.invariant.0),
      omega (arith, bound, c.loop-value.invariant.1),
    )

pub returns : goal.returns
returns g c =
    keyword_none g.W.Words.word c.args.bytes.now c.args.values.now c.loop-value.value-index c.loop-value.left
    (one_of g.W.Words.word c.args.values.now c.args.bytes.now) c.loop-value-test.false c.loop-value.invariant.1 c.loop-value.invariant.0
