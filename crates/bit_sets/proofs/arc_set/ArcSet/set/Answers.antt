use Rattle.std.proofs.Common.{◌≡◌, ◌∙◌, ◌==◌, ◌||◌, ℕ, ap, arith, length}
use Rattle.std.proofs.lemmas.List.{with_items_is}
use Rattle.std.specs.FinSet as set
use Rattle.orienteering.specs.Arc.{arc, ArcSet}
use Rattle.bit_sets.specs.ArcTable.{ArcTable, arcs_of, bit_of}
use Rattle.bit_sets.specs.Words.{has_bit}
use Rattle.bit_sets.proofs.ArcBits.{arcs_of-insert}
use Rattle.bit_sets.proofs.arc_set.ArcSet.set.Goals as goal

pub returns : goal.returns
returns c =
    let calls_is = ap (λ (t : ArcTable). t.calls) c.self.view_is in
    let old = c.self.inside.words.items in
    let new = c.set_bit_of.new.words in
    let bits : (y : ℕ) → has_bit new y ≡ (y == bit_of c.args.i c.args.j || has_bit old y) =
    λ y. c.set_bit_of.ensures.set y ∙ (λ x. y == c.bit_of.ensures x || has_bit (c.deref_mut.ensures.value x) y) in
    let same_length : length new ≡ c.self.inside.words.len = omega arith in
    let make : ArcSet → ArcTable = λ s. record { calls = c.self.inside.calls; arcs = s } in
    ap make
    (ap (arcs_of c.self.inside.calls) (with_items_is c.self.inside.words new same_length)
    ∙ arcs_of-insert c.self.inside.calls old new c.args.i c.args.j (omega arith) (omega arith) (omega arith) bits)
    ∙ ap (λ (t : ArcTable). record t { arcs = set.insert t.arcs (arc c.args.i c.args.j) }) c.self.view_is
