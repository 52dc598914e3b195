use Rattle.std.proofs.Common.{◌∙◌, ap, not, sym}
use Rattle.bit_sets.specs.NumberSet.{inserted, member}
use Rattle.bit_sets.proofs.Members.{member-members, members-set}
use Rattle.bit_sets.proofs.number_set.Bits.insert_small.Goals as goal

pub returns-clause-added : goal.returns-clause-added
returns-clause-added c =
    members-set c.self.inside.words.items c.set_bit.new.words.items c.args.x c.set_bit.ensures.set
    ∙ ap (inserted c.args.x) c.self.view_is

pub returns-clause-fresh : goal.returns-clause-fresh
returns-clause-fresh c =
    c.set_bit.ensures.fresh
    ∙ ap not (sym (member-members c.self.inside.words.items c.args.x) ∙ ap (member c.args.x) c.self.view_is)
