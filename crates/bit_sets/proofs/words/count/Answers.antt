use Rattle.std.proofs.Common.{◌≡◌, ◌<◌, ◌+◌, ◌*◌, ◌^◌, filter, length, arith, ◌∙◌, ap, get_or, sym}
use Rattle.std.specs.List.{range_with_len}
use Rattle.bit_sets.specs.Words.{has_bit}
use Rattle.bit_sets.proofs.Counts.{few_members, length-all_members, length-members_more}
use Rattle.bit_sets.proofs.words.count.Goals as goal

pub overflow_add-count : goal.overflow_add-count
overflow_add-count c =
    let words = c.args.words.now in
    let index = c.loop-word.word-index in
    let bound = c.type_inv.words index in
    let fits : get_or words index 0 < 2 ^ 64 = omega (arith, bound) in
    let so_far = c.loop-word.invariant in
    let ones = c.from-count.ensures in
    let within = c.loop-word-test.true in
    let few = c.requires in
    omega (arith, length-members_more words index fits, few_members words (index + 1))

pub loop-word-preserved : goal.loop-word-preserved
loop-word-preserved c =
    let words = c.args.words.now in
    let index = c.loop-word.word-index in
    let bound = c.type_inv.words index in
    let fits : get_or words index 0 < 2 ^ 64 = omega (arith, bound) in
    (λ i. c.loop-word.invariant i + c.from-count.ensures i) ∙ sym (length-members_more words index fits)

pub returns : goal.returns
returns c =
    let all : c.loop-word.word-index ≡ length c.args.words.now = omega arith in
    c.loop-word.invariant
    ∙ (ap (λ n. length (filter (has_bit c.args.words.now) (range_with_len 0 (64 * n)))) all ∙ sym (length-all_members c.args.words.now))
