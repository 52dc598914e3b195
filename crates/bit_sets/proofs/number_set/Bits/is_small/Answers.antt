use Rattle.std.proofs.Common.{arith, subst, sym}
use Rattle.std.proofs.lemmas.Bool.{leb-true, le-leb}
use Rattle.bit_sets.specs.NumberSet.{IsSmall}
use Rattle.bit_sets.proofs.Members.{few_words_small, small_length}
use Rattle.bit_sets.proofs.number_set.Bits.is_small.Goals as goal

pub returns : goal.returns
returns c =
    let words = c.self.inside.words.items in
    let long = c.len.ensures.value in (
      λ few.
          let short = leb-true _ _ few in
          subst IsSmall c.self.view_is (few_words_small words (omega (arith, long, short))),
      λ small.
          let short = small_length words c.self.invariant (subst IsSmall (sym c.self.view_is) small) in
          le-leb _ _ (omega (arith, long, short)),
    )
