use Rattle.std.proofs.Common.{◌∙◌, ◌||◌, arith, ap, length, subst, sym}
use Rattle.bit_sets.specs.NumberSet.{IsSmall, united}
use Rattle.bit_sets.specs.Words.{has_bit}
use Rattle.bit_sets.proofs.Members.{small_length}
use Rattle.bit_sets.proofs.Unions.{members-united, members-united_turned}
use Rattle.bit_sets.proofs.number_set.Bits.union.Goals as goal

pub returns-in_err-joined-clause-small : goal.returns-in_err-joined-clause-small
returns-in_err-joined-clause-small c = λ _ small.
    let long = ap (λ ws. length ws) c.as_slice-theirs.ensures in
    let few = small_length c.other.inside.words.items c.other.invariant (subst IsSmall (sym c.other.view_is) small) in
    let bad = c.in_err-joined.ensures.inline (omega (arith, long, few)) in cc

pub returns-then-mine-theirs-clause-both : goal.returns-then-mine-theirs-clause-both
returns-then-mine-theirs-clause-both c =
    members-united_turned c.in_ok-joined.field-0.items c.self.inside.words.items c.other.inside.words.items
    (λ z. c.in_ok-joined.ensures.both z ∙ (λ i. has_bit (c.as_slice-theirs.ensures i) z || has_bit (c.as_slice-mine.ensures i) z))
    ∙ (λ i. united (c.self.view_is i) (c.other.view_is i))

pub returns-in_err-joined-2-clause-small : goal.returns-in_err-joined-2-clause-small
returns-in_err-joined-2-clause-small c = λ small _.
    let long = ap (λ ws. length ws) c.as_slice-mine.ensures in
    let few = small_length c.self.inside.words.items c.self.invariant (subst IsSmall (sym c.self.view_is) small) in
    let bad = c.in_err-joined-2.ensures.inline (omega (arith, long, few)) in cc

pub returns-clause-both : goal.returns-clause-both
returns-clause-both c =
    members-united c.in_ok-joined-2.field-0.items c.self.inside.words.items c.other.inside.words.items
    (λ z. c.in_ok-joined-2.ensures.both z ∙ (λ i. has_bit (c.as_slice-mine.ensures i) z || has_bit (c.as_slice-theirs.ensures i) z))
    ∙ (λ i. united (c.self.view_is i) (c.other.view_is i))
