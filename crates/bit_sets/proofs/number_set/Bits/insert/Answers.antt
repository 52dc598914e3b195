use Rattle.std.proofs.Common.{◌∙◌, ap, not, sym}
use Rattle.bit_sets.specs.NumberSet.{inserted, member}
use Rattle.bit_sets.specs.Words.{has_bit, members}
use Rattle.bit_sets.proofs.Members.{has_bit-grown, member-members, members-grown, members-set}
use Rattle.bit_sets.proofs.number_set.Bits.insert.Goals as goal

pub returns-clause-added : goal.returns-clause-added
returns-clause-added c =
    let x = c.args.x in
    let old = c.self.inside.words.items in
    members-set c.reach.new.words.items c.set_bit.new.words.items x c.set_bit.ensures.set
    ∙ ap (inserted x) (ap members c.in_ok-reach.ensures.grown ∙ (members-grown old _ ∙ c.self.view_is))

pub returns-clause-fresh : goal.returns-clause-fresh
returns-clause-fresh c =
    let x = c.args.x in
    let old = c.self.inside.words.items in
    c.set_bit.ensures.fresh
    ∙ ap not (ap (λ ws. has_bit ws x) c.in_ok-reach.ensures.grown ∙ (has_bit-grown old _ x
    ∙ (sym (member-members old x) ∙ ap (member x) c.self.view_is)))
