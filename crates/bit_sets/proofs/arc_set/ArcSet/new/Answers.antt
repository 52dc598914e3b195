use Rattle.std.proofs.Common.{◌∙◌, ap}
use Rattle.orienteering.specs.Arc.{ArcSet}
use Rattle.bit_sets.specs.ArcTable.{ArcTable, arcs_of}
use Rattle.bit_sets.proofs.ArcBits.{arcs_of-none}
use Rattle.bit_sets.proofs.arc_set.ArcSet.new.Goals as goal

pub returns : goal.returns
returns c =
    let make : ArcSet → ArcTable = λ s. record { calls = c.args.n; arcs = s } in
    ap make (ap (arcs_of c.args.n) (c.in_ok-words.ensures.items_if_clones_equal (λ y e. e)) ∙ arcs_of-none c.args.n _)
