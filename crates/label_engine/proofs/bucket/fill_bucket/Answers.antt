use Rattle.std.proofs.Common.{◌≡◌, ◌+◌, length, sym, ap, ◌∙◌, subst, arith}
use Rattle.label_engine.specs.Layer.{Bucket}
use Rattle.label_engine.specs.Offer.{stepped_label, taken}
use Rattle.label_engine.proofs.Rivals.{rivals_moved}
use Rattle.label_engine.proofs.Buckets.{bucket_step, from_known}
use Rattle.label_engine.proofs.bucket.fill_bucket.Goals as goal

pub know_step-requires-clause-from : goal.know_step-requires-clause-from
know_step-requires-clause-from g c =
    (from_known g.R.Resource.rules (g.M.Moves.moves c.args.moves.now) g.met.R.Resource.laws c.requires.fitting c.args.hops c.args.labels.now c.loop-place.place c.index-labels-place.result c.requires.whole.covering (omega arith) c.index-labels-place.is).is_call

pub loop-place-preserved : goal.loop-place-preserved
loop-place-preserved g c =
    let rules = g.R.Resource.rules in
    let moves = g.M.Moves.moves c.args.moves.now in
    let labels = c.args.labels.now in
    let label = c.index-labels-place.result in
    let known = c.know_step.new.known in
    let is_call = (from_known rules moves g.met.R.Resource.laws c.requires.fitting c.args.hops labels c.loop-place.place label c.requires.whole.covering (omega arith) c.index-labels-place.is).is_call in
    let step : known.step ≡ moves.step label.call c.args.to =
    c.know_step.ensures.known.step (omega (arith, is_call.low, c.know_step.ensures.from)) ∙ ap (λ from. moves.step from c.args.to) c.know_step.ensures.from in
    let found = c.extension-found.ensures ∙ ap (λ s. stepped_label rules label c.loop-place.place s c.args.to) step in
    let made = c.in_ok-take.ensures.bucket ∙ ap (taken rules c.loop-place.rivals c.loop-place.bucket.items) found in
    record {
      filled = subst (λ bucket. Bucket rules moves g.R.Resource.fits c.args.hops c.args.start labels bucket c.args.to (c.loop-place.place + 1)) (sym made)
          (bucket_step rules moves g.met.R.Resource.laws c.requires.fitting c.args.hops c.args.start labels c.loop-place.bucket.items c.loop-place.rivals c.args.to c.loop-place.place label c.requires.whole c.requires.layer c.loop-place.invariant.filled c.loop-place.invariant.rivals (omega arith) (omega arith) c.index-labels-place.is c.requires.call);
      rivals = rivals_moved rules labels c.args.to c.loop-place.rivals c.take.new.rivals c.take.ensures.rivals c.loop-place.invariant.rivals;
      known = c.know_step.ensures.known;
    }

pub returns-clause-filled : goal.returns-clause-filled
returns-clause-filled g c =
    let end : c.loop-place.place ≡ length c.args.labels.now = omega arith in
    subst (Bucket g.R.Resource.rules (g.M.Moves.moves c.args.moves.now) g.R.Resource.fits c.args.hops c.args.start c.args.labels.now c.loop-place.bucket.items c.args.to) end c.loop-place.invariant.filled
