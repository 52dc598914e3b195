use Rattle.std.proofs.Common.{arith, ap, length, subst, sym}
use Rattle.bit_sets.specs.NumberSet.{IsSmall}
use Rattle.bit_sets.proofs.Members.{small_length}
use Rattle.bit_sets.proofs.number_set.Bits.copy.Goals as goal

pub returns-in_err-from_slice-clause-small : goal.returns-in_err-from_slice-clause-small
returns-in_err-from_slice-clause-small c = λ small.
    let words = c.self.inside.words.items in
    let long = ap (λ ws. length ws) c.as_slice.ensures in
    let few = small_length words c.self.invariant (subst IsSmall (sym c.self.view_is) small) in
    let bad = c.in_err-from_slice.ensures.succeeds (omega (arith, long, few)) in cc
