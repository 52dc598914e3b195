use Rattle.std.proofs.Common.{◌≡◌, ◌+◌, ◌<◌, [], length, take, sym, ap, ◌∙◌, subst, arith, length-append}
use Rattle.std.proofs.lemmas.List.{take_at}
use Rattle.std.specs.List.{All}
use Rattle.label_engine.specs.Rivals.{StandsFor}
use Rattle.label_engine.specs.BoundedRows.{CallLayer}
use Rattle.label_engine.proofs.RowLayers.{rows_set, longer_none, longer_step, longer_next}
use Rattle.label_engine.proofs.bounded_rows.longer_fronts.Goals as goal

pub loop-index-init : goal.loop-index-init
loop-index-init g c = record {
  longer = longer_none g.R.Resource.rules (g.M.Moves.moves c.args.moves.now) g.met.R.Resource.laws c.calls-index-end.ensures.fitting c.args.layer.hops c.args.layer.start c.args.labels.now.items;
  grows = omega arith;
  few = c.requires.few;
  count_rows = c.requires.count_rows;
  rows = c.requires.rows;
  empty = c.new-candidates.ensures.items;
}

pub loop-index-preserved : goal.loop-index-preserved
loop-index-preserved g c =
    let rules = g.R.Resource.rules in
    let moves = g.M.Moves.moves c.args.moves.now in
    let fits = g.R.Resource.fits in
    let call = c.loop-index.index + 1 in
    let hops = c.args.layer.hops in
    let start = c.args.layer.start in
    let end = c.args.layer.end in
    let old = c.args.labels.now.items in
    let labels = c.loop-index.labels.items in
    let longer = c.extend_to_call.new.labels.items in
    let grown = c.loop-index.invariant.longer.grown in
    let end_is : end ≡ length old = omega (arith, c.requires.end, c.args.labels.now.ok.0) in
    let sliced : take end labels ≡ old = ap (take end) grown.joined ∙ take_at old grown.layer end (sym end_is) in
    let extended : CallLayer rules moves fits hops start old longer [] call (length old) =
    subst (CallLayer rules moves fits hops start old longer [] call) end_is
    (subst (λ ls. CallLayer rules moves fits hops start ls longer [] call end) sliced c.in_ok-extend_to_call.ensures.extended) in
    let more = c.in_ok-extend_to_call.ensures.longer in
    let in_rows : c.loop-index.index < length c.loop-index.rows.items = omega (arith, c.loop-index.rows.ok.0, c.loop-index.invariant.count_rows) in
    record {
      longer = longer_step rules moves g.met.R.Resource.laws c.calls-index-end.ensures.fitting hops start old labels longer call c.loop-index.invariant.longer extended more;
      grows = omega (arith, c.loop-index.invariant.grows, ap length more.joined, length-append labels more.more, c.extend_to_call.new.labels.ok.0, c.loop-index.labels.ok.0);
      few = omega (arith, c.len.ensures, c.if-len-limit.false);
      count_rows = c.loop-index.invariant.count_rows;
      rows = rows_set rules labels longer c.loop-index.rows.items c.loop-index.index c.extend_to_call.new.row in_rows more c.loop-index.invariant.rows c.in_ok-extend_to_call.ensures.row;
      empty = c.in_ok-extend_to_call.ensures.empty;
    }

pub returns-clause-covering : goal.returns-clause-covering
returns-clause-covering g c _ =
    (longer_next g.R.Resource.rules (g.M.Moves.moves c.args.moves.now) g.met.R.Resource.laws c.calls-index-end.ensures.fitting c.args.layer.hops c.args.layer.start c.args.labels.now.items c.loop-index.labels.items (c.loop-index.index + 1) c.requires.some c.requires.covering c.requires.layer c.loop-index.invariant.longer (omega (arith, c.calls-index-end.ensures.count))).0

pub returns-clause-layer : goal.returns-clause-layer
returns-clause-layer g c _ =
    rw c.requires.end
    (rw c.args.labels.now.ok.0
    (longer_next g.R.Resource.rules (g.M.Moves.moves c.args.moves.now) g.met.R.Resource.laws c.calls-index-end.ensures.fitting c.args.layer.hops c.args.layer.start c.args.labels.now.items c.loop-index.labels.items (c.loop-index.index + 1) c.requires.some c.requires.covering c.requires.layer c.loop-index.invariant.longer (omega (arith, c.calls-index-end.ensures.count))).1)

pub extend_to_call-requires-clause-row : goal.extend_to_call-requires-clause-row
extend_to_call-requires-clause-row g c =
    let row = c.index_mut-row.result.now in
    let in_rows : c.loop-index.index < length c.loop-index.rows.items = omega (arith, c.loop-index.rows.ok.0, c.loop-index.invariant.count_rows) in
    subst (λ v. All (StandsFor c.loop-index.labels.items (c.loop-index.index + 1)) v.items) (sym c.index_mut-row.ensures.value) (c.loop-index.invariant.rows.row c.loop-index.index row in_rows)
