use Rattle.std.proofs.Common.{◌≡◌, ◌∙◌, arith, ap, sym}
use Rattle.bit_sets.specs.Words.{left_members}
use Rattle.bit_sets.proofs.LeftNumbers.{left_members-next, left_members-none}
use Rattle.bit_sets.proofs.number_iter.next_word.Goals as goal

pub returns-then-words-next-ne0-clause-same : goal.returns-then-words-next-ne0-clause-same
returns-then-words-next-ne0-clause-same c =
    let spent : c.args.word ≡ 0 = omega arith in
    left_members-next c.args.words.now c.args.place c.loop-next.next c.requires (omega arith) c.loop-next.invariant
    ∙ sym (ap (left_members c.args.words.now c.args.place) spent)

pub returns-clause-none : goal.returns-clause-none
returns-clause-none c _ =
    let spent : c.args.word ≡ 0 = omega arith in
    ap (left_members c.args.words.now c.args.place) spent
    ∙ left_members-none c.args.words.now c.args.place c.loop-next.next c.requires (omega arith) c.loop-next.invariant (omega arith)
