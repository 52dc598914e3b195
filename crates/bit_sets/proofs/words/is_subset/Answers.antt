use Rattle.std.proofs.Common.{◌<◌, ◌^◌, get_or, bit_and, sym, ap, ◌∙◌, arith}
use Rattle.std.proofs.lemmas.Bool.{false_from_ne_true}
use Rattle.bit_sets.proofs.Members.{subset-words, words-subset}
use Rattle.bit_sets.proofs.words.is_subset.Goals as goal

pub returns-then-word-word_at : goal.returns-then-word-word_at
returns-then-word-word_at c =
    let first = c.args.first.now in
    let second = c.args.second.now in
    let place = c.loop-place.place in
    let bound = c.type_inv.first place in
    let fits : get_or first place 0 < 2 ^ 64 = omega (arith, bound) in
    sym (false_from_ne_true _ (λ subset.
    c.if-word-word_at.true (ap (bit_and (get_or first place 0)) c.word_at.ensures ∙ words-subset first second place fits subset)))

pub returns : goal.returns
returns c =
    sym (subset-words c.args.first.now c.args.second.now (λ k within. c.loop-place.invariant k (omega (arith, within, c.loop-place-test.false))))
