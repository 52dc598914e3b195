use Rattle.std.proofs.Common.{◌≡◌, ◌++◌, [], ◌∷◌, take, sym, ap, ◌∙◌, subst}
use Rattle.std.specs.List.{All}
use Rattle.std.specs.Option.{option_to_list}
use Rattle.std.proofs.lemmas.List.Elements.{All-contains, Contains-push}
use Rattle.label_engine.specs.BoundedRows.{kept, IsLonger, CallLayer}
use Rattle.label_engine.specs.Layer.{IsNewAt}
use Rattle.label_engine.proofs.RowLayers.{longer_itself, longer_append, gathered_sorted, kept_step}
use Rattle.label_engine.proofs.bounded_rows.extend_to_call.Goals as goal

pub loop-label-init : goal.loop-label-init
loop-label-init g c =
    let rules = g.R.Resource.rules in
    let moves = g.M.Moves.moves c.args.moves.now in
    let layer = c.args.layer in
    let entry = c.args.labels.now.items in
    let candidates = c.gather.new.candidates.items in
    let gathered : CallLayer rules moves g.R.Resource.fits layer.hops layer.start (take layer.end entry) entry candidates c.args.to layer.end =
    subst (λ ls. CallLayer rules moves g.R.Resource.fits layer.hops layer.start (take layer.end ls) ls candidates c.args.to layer.end) c.deref.ensures.value c.in_ok-gather.ensures in
    record {
      layer = gathered_sorted rules moves g.met.R.Resource.laws c.requires.fitting layer.hops layer.start (take layer.end entry) entry candidates c.put_best_last.new.candidates.items c.args.to layer.end gathered c.put_best_last.ensures;
      longer = longer_itself entry;
      row = c.requires.row;
    }

pub keep-requires-clause-call : goal.keep-requires-clause-call
keep-requires-clause-call g c =
    let rest = c.pop.new.self.items in
    let label = c.in-Some.label in
    let P = IsNewAt g.R.Resource.rules (g.M.Moves.moves c.args.moves.now) c.args.layer.hops (take c.args.layer.end c.args.labels.now.items) c.args.to in
    let all : c.loop-label.candidates.items ≡ rest ++ label ∷ [] = c.pop.ensures.items ∙ ap (λ o. rest ++ option_to_list o) c.in-Some.is in
    (All-contains P (rest ++ label ∷ []) label (subst (All P) all c.loop-label.invariant.layer.new) (Contains-push rest label)).at

pub loop-label-preserved : goal.loop-label-preserved
loop-label-preserved g c =
    let rules = g.R.Resource.rules in
    let moves = g.M.Moves.moves c.args.moves.now in
    let fits = g.R.Resource.fits in
    let layer = c.args.layer in
    let entry = c.args.labels.now.items in
    let old = take layer.end entry in
    let labels = c.loop-label.labels.items in
    let row = c.loop-label.row.items in
    let rest = c.pop.new.self.items in
    let label = c.in-Some.label in
    let all : c.loop-label.candidates.items ≡ rest ++ label ∷ [] = c.pop.ensures.items ∙ ap (λ o. rest ++ option_to_list o) c.in-Some.is in
    let before : CallLayer rules moves fits layer.hops layer.start old labels (rest ++ label ∷ []) c.args.to layer.end =
    subst (λ cs. CallLayer rules moves fits layer.hops layer.start old labels cs c.args.to layer.end) all c.loop-label.invariant.layer in
    let made = c.in_ok-keep.ensures.labels in
    record {
      layer = subst (λ ls. CallLayer rules moves fits layer.hops layer.start old ls rest c.args.to layer.end) (sym made)
          (kept_step rules moves g.met.R.Resource.laws c.requires.fitting layer.hops layer.start old labels rest row c.args.to layer.end label c.requires.covering c.loop-label.invariant.row before);
      longer = subst (IsLonger entry) (sym made) (longer_append entry labels (kept rules row label) c.loop-label.invariant.longer);
      row = c.in_ok-keep.ensures.row;
    }
