use Rattle.std.proofs.Common.{◌≡◌, ◌+◌, [], ◌++◌, length, sym, subst, arith}
use Rattle.std.specs.Option.{option_to_list}
use Rattle.std.proofs.lemmas.List.Elements.{All-weaker}
use Rattle.label_engine.specs.Front.{IsCallOf}
use Rattle.label_engine.specs.Layer.{IsReached}
use Rattle.label_engine.specs.Offer.{begun_label}
use Rattle.label_engine.specs.Rivals.{AreRivals}
use Rattle.label_engine.proofs.Layers.{reached_fits, grown_reached, whole_none}
use Rattle.label_engine.proofs.Rivals.{all_rivals_push, rivals_closed}
use Rattle.label_engine.proofs.Steps.{begun_at, first_rivals, first_step, first_whole}
use Rattle.label_engine.proofs.layer.first_layer.Goals as goal

pub loop-index-preserved : goal.loop-index-preserved
loop-index-preserved g c =
    let rules = g.R.Resource.rules in
    let moves = g.M.Moves.moves c.args.moves.now in
    let laws = g.met.R.Resource.laws in
    let fitting = c.requires.fitting in
    let call = c.loop-index.index + 1 in
    let labels = c.loop-index.labels.items in
    let first = c.loop-index.invariant.first in
    let is_call : IsCallOf moves call = record { low = omega arith; high = omega (arith, c.requires.count) } in
    let found = option_to_list (begun_label rules moves call) in
    let at = begun_at rules moves laws fitting call is_call in
    let fit = All-weaker (IsReached rules moves 1) (λ l. g.R.Resource.fits l.state) (reached_fits rules moves laws fitting 1) labels
    (grown_reached rules moves laws fitting 0 [] labels (whole_none rules moves laws fitting).covering first.growing.grown) in
    let row = c.in_ok-begin_call.field-0 in
    let closed : AreRivals rules (labels ++ found) call row.items =
    subst (AreRivals rules (labels ++ found) call) (sym c.in_ok-begin_call.ensures.rivals)
    (rivals_closed rules laws labels found call [] fit at.1 at.0 (first_rivals rules moves laws fitting labels call first)) in
    let count : length c.loop-index.rivals.items + 1 ≡ call = omega (arith, c.loop-index.rivals.ok.0, c.loop-index.invariant.count) in
    record {
      first = rw c.in_ok-begin_call.ensures.labels (first_step rules moves laws fitting labels call first is_call);
      count = omega (arith, c.in_ok-push.ensures.len, c.loop-index.invariant.count);
      rivals = rw (c.in_ok-push.ensures.items, c.in_ok-begin_call.ensures.labels)
          (all_rivals_push rules labels found c.loop-index.rivals.items row call count c.loop-index.invariant.rivals at.0 closed);
    }

pub returns-clause-whole : goal.returns-clause-whole
returns-clause-whole g c =
    (first_whole g.R.Resource.rules (g.M.Moves.moves c.args.moves.now) g.met.R.Resource.laws c.requires.fitting c.loop-index.labels.items (c.loop-index.index + 1) c.loop-index.invariant.first (omega (arith, c.requires.count))).0
