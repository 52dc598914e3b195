use Rattle.std.proofs.Common.{◌∙◌, ap, arith}
use Rattle.std.specs.FinSet as set
use Rattle.orienteering.specs.Arc.{arc}
use Rattle.bit_sets.specs.ArcTable.{ArcTable, bit_of}
use Rattle.bit_sets.specs.Words.{has_bit}
use Rattle.bit_sets.proofs.ArcBits.{contains-arcs_where}
use Rattle.bit_sets.proofs.arc_set.ArcSet.has.Goals as goal

pub returns : goal.returns
returns c =
    let calls_is = ap (λ (t : ArcTable). t.calls) c.self.view_is in
    let words = c.self.inside.words.items in
    c.has_bit.ensures
    ∙ ((λ x. has_bit (c.deref.ensures.value x) (c.bit_of.ensures x))
    ∙ (contains-arcs_where c.self.inside.calls (λ i j. has_bit words (bit_of i j)) c.args.i c.args.j (omega arith) (omega arith)
    ∙ ap (λ (t : ArcTable). set.contains t.arcs (arc c.args.i c.args.j)) c.self.view_is))
