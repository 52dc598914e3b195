use Rattle.std.proofs.Common.{◌∙◌, refl}
use Rattle.std.proofs.lemmas.Iterator.Adapters.{fact_from_collect, YieldsList-from_vec}
use Rattle.std.proofs.lemmas.Result.{IfOk-weaker}
use Rattle.std.specs.Vec.Iter.{into_iter_items}
use Rattle.insert_heur.proofs.Order.{best_are_first}
use Rattle.insert_heur.proofs.candidates.three_first.Goals as goal

pub returns : goal.returns
returns c =
    let best = into_iter_items c.in_ok-three_least.field-0 in
    IfOk-weaker c.collect.result _ _
    (λ v held. held.0 ∙ best_are_first 3 c.args.found.now best c.in_ok-three_least.ensures)
    (fact_from_collect _ c.collect.result c.collect.ensures.ran
    (YieldsList-from_vec {s = c.in_ok-three_least.field-0} best refl c.in_ok-three_least.field-0.rest.ok.0))
