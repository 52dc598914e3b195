use Rattle.std.proofs.Common.{◌∙◌, ap, sym}
use Rattle.bit_sets.specs.NumberSet.{member}
use Rattle.bit_sets.specs.Words.{has_bit}
use Rattle.bit_sets.proofs.Members.{member-members}
use Rattle.bit_sets.proofs.number_set.Bits.contains.Goals as goal

pub returns : goal.returns
returns c =
    c.has_bit.ensures ∙ (ap (λ ws. has_bit ws c.args.x) c.as_slice.ensures
    ∙ (sym (member-members c.self.inside.words.items c.args.x) ∙ ap (member c.args.x) c.self.view_is))
