use Rattle.std.proofs.Common.{◌≡◌, ◌+◌, ◌<◌, ◌++◌, length, take, drop, sym, ap, ◌∙◌, subst, arith, length-append}
use Rattle.std.proofs.lemmas.List.{take_at}
use Rattle.std.proofs.lemmas.List.Elements.{All-weaker}
use Rattle.label_engine.specs.Layer.{IsNewAt, Bucket, NextLayer}
use Rattle.label_engine.specs.Rivals.{AreRivals, closed_rivals}
use Rattle.label_engine.proofs.Rivals.{all_rivals_set, rivals_closed, rivals_longer, rivals_shorter}
use Rattle.label_engine.proofs.Steps.{next_none, next_fit, bucket_fit, next_bucket, next_whole, next_many}
use Rattle.label_engine.proofs.layer.next_layer.Goals as goal

pub loop-index-init : goal.loop-index-init
loop-index-init g c = record {
  next = next_none g.R.Resource.rules (g.M.Moves.moves c.args.moves.now) g.met.R.Resource.laws c.requires.fitting c.args.hops c.args.start c.args.labels.now.items c.requires.whole;
  longer = omega arith;
  few = c.requires.few;
  rows = c.requires.rows;
  rivals = c.requires.rivals;
  empty = c.requires.empty;
}

pub fill_bucket-requires-clause-rivals : goal.fill_bucket-requires-clause-rivals
fill_bucket-requires-clause-rivals g c =
    let rules = g.R.Resource.rules in
    let call = c.loop-index.index + 1 in
    let old = c.args.labels.now.items in
    let grown = c.loop-index.invariant.next.growing.grown in
    let row = c.index_mut-row.result.now in
    let sliced : take c.len-end.result c.deref.result.now ≡ old =
    ap (take c.len-end.result) (c.deref.ensures.value ∙ grown.joined) ∙ take_at old grown.layer c.len-end.result (omega (arith, c.len-end.ensures, c.args.labels.now.ok.0)) in
    let in_rows : c.loop-index.index < length c.loop-index.rivals.items = omega (arith, c.loop-index.rivals.ok.0, c.loop-index.invariant.rows) in
    let here : AreRivals rules c.loop-index.labels.items call row.items =
    subst (λ v. AreRivals rules c.loop-index.labels.items call v.items) (sym c.index_mut-row.ensures.value) (c.loop-index.invariant.rivals.row c.loop-index.index row in_rows) in
    let before : AreRivals rules old call row.items =
    rivals_shorter rules old grown.layer call row.items (subst (λ l. AreRivals rules l call row.items) grown.joined here)
    (All-weaker (λ l. l.call < call) (λ l. l.call ≡ call → ⊥) (λ l low e. omega arith) grown.layer c.loop-index.invariant.next.below) in
    rw (sliced, c.deref_mut.ensures.value) before

pub returns-then-len-limit-clause-many : goal.returns-then-len-limit-clause-many
returns-then-len-limit-clause-many g c _ most le =
    let rules = g.R.Resource.rules in
    let moves = g.M.Moves.moves c.args.moves.now in
    let laws = g.met.R.Resource.laws in
    let fitting = c.requires.fitting in
    let call = c.loop-index.index + 1 in
    let old = c.args.labels.now.items in
    let labels = c.loop-index.labels.items in
    let bucket = c.fill_bucket.new.bucket.items in
    let next = c.loop-index.invariant.next in
    let sliced : take c.len-end.result c.deref.result.now ≡ old =
    ap (take c.len-end.result) (c.deref.ensures.value ∙ next.growing.grown.joined) ∙ take_at old next.growing.grown.layer c.len-end.result (omega (arith, c.len-end.ensures, c.args.labels.now.ok.0)) in
    let filled : Bucket rules moves g.R.Resource.fits c.args.hops c.args.start old bucket call (length old) =
    subst (λ l. Bucket rules moves g.R.Resource.fits c.args.hops c.args.start l bucket call (length l)) sliced c.in_ok-fill_bucket.ensures.filled in
    let longer = next_bucket rules moves laws fitting c.args.hops c.args.start old labels bucket call next filled in
    let after = subst (λ l. NextLayer rules moves g.R.Resource.fits c.args.hops c.args.start old l (call + 1)) (sym c.in_ok-close_bucket.ensures.labels) longer in
    next_many rules moves laws fitting c.args.limit c.args.hops c.args.start most old c.close_bucket.new.labels.items (call + 1) c.requires.some le
    (omega (arith, c.close_bucket.new.labels.ok.0, c.if-len-limit.true, c.len.ensures)) c.requires.whole c.requires.layer after

pub loop-index-preserved : goal.loop-index-preserved
loop-index-preserved g c =
    let rules = g.R.Resource.rules in
    let moves = g.M.Moves.moves c.args.moves.now in
    let laws = g.met.R.Resource.laws in
    let fits = g.R.Resource.fits in
    let fitting = c.requires.fitting in
    let call = c.loop-index.index + 1 in
    let old = c.args.labels.now.items in
    let labels = c.loop-index.labels.items in
    let bucket = c.fill_bucket.new.bucket.items in
    let rivals = c.fill_bucket.new.rivals in
    let next = c.loop-index.invariant.next in
    let layer = next.growing.grown.layer in
    let sliced : take c.len-end.result c.deref.result.now ≡ old =
    ap (take c.len-end.result) (c.deref.ensures.value ∙ next.growing.grown.joined) ∙ take_at old layer c.len-end.result (omega (arith, c.len-end.ensures, c.args.labels.now.ok.0)) in
    let filled : Bucket rules moves fits c.args.hops c.args.start old bucket call (length old) =
    subst (λ l. Bucket rules moves fits c.args.hops c.args.start l bucket call (length l)) sliced c.in_ok-fill_bucket.ensures.filled in
    let longer = next_bucket rules moves laws fitting c.args.hops c.args.start old labels bucket call next filled in
    let at = All-weaker (IsNewAt rules moves c.args.hops old call) (λ l. l.call ≡ call) (λ l n. n.at) bucket filled.new in
    let before : AreRivals rules labels call rivals =
    subst (λ l. AreRivals rules l call rivals) (sym next.growing.grown.joined)
    (rivals_longer rules old layer call rivals (subst (λ l. AreRivals rules l call rivals) sliced c.in_ok-fill_bucket.ensures.rivals)
    (All-weaker (λ l. l.call < call) (λ l. l.call ≡ call → ⊥) (λ l low e. omega arith) layer next.below)) in
    let row_is : c.close_bucket.new.rivals.items ≡ closed_rivals rules bucket rivals =
    c.in_ok-close_bucket.ensures.rivals ∙ ap (closed_rivals rules bucket) (take_at rivals (drop (length rivals) c.index_mut-row.result.now.items) c.index_mut-row.result.now.len (omega (arith, c.fill_bucket.auto.rivals, c.deref_mut.ensures.len))) in
    let closed : AreRivals rules (labels ++ bucket) call c.close_bucket.new.rivals.items =
    subst (AreRivals rules (labels ++ bucket) call) (sym row_is)
    (rivals_closed rules laws labels bucket call rivals (next_fit rules moves laws fitting c.args.hops c.args.start old labels call c.requires.whole next) (bucket_fit rules moves laws fitting c.args.hops c.args.start old bucket call (length old) filled) at before) in
    let in_rows : c.loop-index.index < length c.loop-index.rivals.items = omega (arith, c.loop-index.rivals.ok.0, c.loop-index.invariant.rows) in
    record {
      next = rw c.in_ok-close_bucket.ensures.labels longer;
      longer = omega (arith, c.loop-index.invariant.longer, ap length c.in_ok-close_bucket.ensures.labels, length-append labels bucket, c.close_bucket.new.labels.ok.0, c.loop-index.labels.ok.0);
      few = omega (arith, c.len.ensures, c.if-len-limit.false);
      rows = c.loop-index.invariant.rows;
      rivals = rw c.in_ok-close_bucket.ensures.labels (all_rivals_set rules labels bucket c.loop-index.rivals.items c.loop-index.index c.close_bucket.new.rivals in_rows c.loop-index.invariant.rivals at closed);
      empty = c.in_ok-close_bucket.ensures.bucket;
    }

pub returns-clause-whole : goal.returns-clause-whole
returns-clause-whole g c =
    (next_whole g.R.Resource.rules (g.M.Moves.moves c.args.moves.now) g.met.R.Resource.laws c.requires.fitting c.args.hops c.args.start c.args.labels.now.items c.loop-index.labels.items (c.loop-index.index + 1) c.requires.some c.requires.whole c.requires.layer c.loop-index.invariant.next (omega (arith, c.requires.count))).0

pub returns-clause-layer : goal.returns-clause-layer
returns-clause-layer g c =
    rw c.args.labels.now.ok.0
    (next_whole g.R.Resource.rules (g.M.Moves.moves c.args.moves.now) g.met.R.Resource.laws c.requires.fitting c.args.hops c.args.start c.args.labels.now.items c.loop-index.labels.items (c.loop-index.index + 1) c.requires.some c.requires.whole c.requires.layer c.loop-index.invariant.next (omega (arith, c.requires.count))).1
