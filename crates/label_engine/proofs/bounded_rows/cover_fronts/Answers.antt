use Rattle.std.proofs.Common.{◌≡◌, ◌+◌, ◌-◌, ◌<◌, true, take, sym, ◌∙◌, subst, rules, arith}
use Rattle.std.specs.List.{All}
use Rattle.std.proofs.lemmas.List.{take_all}
use Rattle.std.proofs.lemmas.List.Elements.{All-same}
use Rattle.label_engine.specs.Layer.{Covering}
use Rattle.label_engine.proofs.Layers.{covering_stays, covering_covers}
use Rattle.label_engine.proofs.RowLayers.{rows_of_rivals, covers_none}
use Rattle.label_engine.proofs.bounded_rows.cover_fronts.Goals as goal

pub loop-length-init : goal.loop-length-init
loop-length-init g c =
    let rules = g.R.Resource.rules in
    let labels = c.first_layer.new.labels in
    record {
      covering = c.in_ok-first_layer.ensures.whole.covering;
      layer = c.in_ok-first_layer.ensures.layer;
      start = omega arith;
      few = omega (arith, labels.ok.0, c.len.ensures, c.if-limit-len.false);
      count_rows = c.in_ok-first_layer.ensures.count;
      rows = rows_of_rivals rules labels.items c.first_layer.new.rivals.items c.in_ok-first_layer.ensures.rivals;
    }

pub returns-then-start-end-clause-covers : goal.returns-then-start-end-clause-covers
returns-then-start-end-clause-covers g c =
    let rules = g.R.Resource.rules in
    let moves = g.M.Moves.moves c.args.moves.now in
    let laws = g.met.R.Resource.laws in
    let fitting = c.calls-calls.ensures.fitting in
    let labels = c.loop-length.labels in
    let length = c.loop-length.length in
    let short : All (λ l. l.hops < length) labels.items =
    All-same (λ l. l.hops < length) labels.items (take c.loop-length.start labels.items) (sym (take_all c.loop-length.start labels.items (omega (arith, labels.ok.0)))) c.loop-length.invariant.layer.before in
    let stays = covering_stays rules moves laws fitting length (c.args.hops - length) labels.items (omega arith) short c.loop-length.invariant.covering in
    let most : length + (c.args.hops - length) ≡ c.args.hops = omega arith in
    rw c.of.ensures
    (covering_covers rules moves laws fitting c.args.hops labels.items (subst (λ h. Covering rules moves h labels.items) most stays))

pub loop-length-preserved : goal.loop-length-preserved
loop-length-preserved g c =
    let within : c.in_ok-longer_fronts.field-0 ≡ true = search rules in
    let made = c.in_ok-longer_fronts.ensures in
    let labels = c.longer_fronts.new.labels in
    record {
      covering = made.covering within;
      layer = made.layer within;
      start = made.longer within;
      few = omega (arith, made.few within, labels.ok.0);
      count_rows = made.count_rows within ∙ sym c.calls-calls.ensures.count;
      rows = made.rows within;
    }

pub returns-clause-covers : goal.returns-clause-covers
returns-clause-covers g c =
    let rules = g.R.Resource.rules in
    let moves = g.M.Moves.moves c.args.moves.now in
    let labels = c.loop-length.labels in
    let most : c.loop-length.length ≡ c.args.hops = omega arith in
    rw c.of-2.ensures
    (covering_covers rules moves g.met.R.Resource.laws c.calls-calls.ensures.fitting c.args.hops labels.items (subst (λ h. Covering rules moves h labels.items) most c.loop-length.invariant.covering))
