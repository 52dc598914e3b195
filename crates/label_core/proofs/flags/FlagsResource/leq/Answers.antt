use Rattle.std.proofs.Common.{◌∙◌, ◌<◌, ◌^◌, [], ◌∷◌, ap, sym, arith}
use Rattle.bit_sets.specs.NumberSet.{is_subset}
use Rattle.bit_sets.specs.Words.{members}
use Rattle.label_core.proofs.WordFlags.{is_subset-words}
use Rattle.label_core.proofs.flags.FlagsResource.leq.Goals as goal

pub returns : goal.returns
returns c =
    let fits : c.self.inside.word < 2 ^ 64 = omega arith in
    sym (is_subset-words c.self.inside.word c.other.inside.word fits)
    ∙ (ap (λ held. is_subset held (members (c.other.inside.word ∷ []))) c.self.view_is ∙ ap (is_subset c.args.self.now) c.other.view_is)
