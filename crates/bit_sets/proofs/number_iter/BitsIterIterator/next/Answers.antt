use Rattle.std.proofs.Common.{◌∙◌, arith, ap, length, sym}
use Rattle.bit_sets.proofs.LeftNumbers.{left_members-first}
use Rattle.bit_sets.proofs.number_iter.BitsIterIterator.next.Goals as goal

pub returns-clause-steps : goal.returns-clause-steps
returns-clause-steps c =
    sym c.self.view_is
    ∙ (sym c.in_ok-place.ensures.same
    ∙ left_members-first c.self.inside.words.now c.in_ok-place.place c.in_ok-place.word c.in_ok-place.ensures.within
    c.in_ok-place.ensures.some_bit c.in_ok-place.ensures.fits)

pub returns-clause-goes : goal.returns-clause-goes
returns-clause-goes c =
    let step = ap (λ xs. length xs) (returns-clause-steps c) in
    record { on = λ _. (tt, tt, omega (arith, step)); keeps = tt; rests = λ _. tt }
