use Rattle.std.proofs.Common.{◌≡◌, ◌+◌, ◌<◌, ◌++◌, length, get_or, take, sym, ap, ◌∙◌, subst, arith, length-take, get_or-take}
use Rattle.label_engine.specs.BoundedRows.{CallLayer, gathered}
use Rattle.label_engine.specs.Offer.{stepped_label}
use Rattle.label_engine.proofs.Buckets.{from_known}
use Rattle.label_engine.proofs.RowLayers.{gathered_none, gathered_step}
use Rattle.label_engine.proofs.bounded_rows.gather.Goals as goal

pub know_step-requires-clause-from : goal.know_step-requires-clause-from
know_step-requires-clause-from g c =
    let labels = c.args.labels.now in
    let end = c.args.layer.end in
    let place = c.loop-place.place in
    let label = c.index-labels-place.result in
    let is : label ≡ get_or (take end labels) place label = c.index-labels-place.is ∙ sym (get_or-take end labels place label (omega arith)) in
    (from_known g.R.Resource.rules (g.M.Moves.moves c.args.moves.now) g.met.R.Resource.laws c.requires.fitting c.args.layer.hops (take end labels) place label c.requires.covering (omega (arith, length-take end labels, c.requires.end)) is).is_call

pub loop-place-preserved : goal.loop-place-preserved
loop-place-preserved g c =
    let rules = g.R.Resource.rules in
    let moves = g.M.Moves.moves c.args.moves.now in
    let laws = g.met.R.Resource.laws in
    let fitting = c.requires.fitting in
    let hops = c.args.layer.hops in
    let start = c.args.layer.start in
    let end = c.args.layer.end in
    let labels = c.args.labels.now in
    let old = take end labels in
    let row = c.args.row.now in
    let to = c.args.to in
    let place = c.loop-place.place in
    let label = c.index-labels-place.result in
    let known = c.know_step.new.known in
    let candidates = c.loop-place.candidates.items in
    let within : place < length old = omega (arith, length-take end labels, c.requires.end) in
    let is : label ≡ get_or old place label = c.index-labels-place.is ∙ sym (get_or-take end labels place label (omega arith)) in
    let is_call = (from_known rules moves laws fitting hops old place label c.requires.covering within is).is_call in
    let step : known.step ≡ moves.step label.call to =
    c.know_step.ensures.known.step (omega (arith, is_call.low, c.know_step.ensures.from)) ∙ ap (λ from. moves.step from to) c.know_step.ensures.from in
    let found = c.extension-found.ensures ∙ ap (λ s. stepped_label rules label place s to) step in
    let made = c.in_ok-gather_label.ensures ∙ ap (λ o. candidates ++ gathered rules row o) found in
    record {
      layer = subst (λ cs. CallLayer rules moves g.R.Resource.fits hops start old labels cs to (place + 1)) (sym made)
          (gathered_step rules moves laws fitting hops start old labels candidates row to place label c.requires.covering c.requires.layer c.requires.row c.loop-place.invariant.layer (omega arith) within is c.requires.call);
      known = c.know_step.ensures.known;
    }
