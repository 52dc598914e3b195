use Rattle.std.proofs.Common.{◌≡◌, ◌+◌, ◌-◌, ◌<◌, take, [], subst, sym, arith}
use Rattle.std.specs.List.{All}
use Rattle.std.proofs.lemmas.List.{take_all}
use Rattle.std.proofs.lemmas.List.Elements.{All-same}
use Rattle.label_engine.specs.Settled.{IsSettled}
use Rattle.label_engine.specs.Layer.{Whole}
use Rattle.label_engine.proofs.Layers.{whole_none, settled, more_than, whole_stays}
use Rattle.label_engine.proofs.Counting.{settled_many}
use Rattle.label_engine.proofs.search.settle.Goals as goal

pub returns-then-len-limit-clause-many : goal.returns-then-len-limit-clause-many
returns-then-len-limit-clause-many g c _ =
    let labels = c.first_layer.new.labels in
    more_than g.R.Resource.rules (g.M.Moves.moves c.args.moves.now) g.met.R.Resource.laws c.calls-calls.ensures.fitting c.args.limit 1 c.args.hops labels.items (omega arith) (omega (arith, labels.ok.0)) c.in_ok-first_layer.ensures.whole

pub returns-then-start-end-clause-settled : goal.returns-then-start-end-clause-settled
returns-then-start-end-clause-settled g c =
    let rules = g.R.Resource.rules in
    let moves = g.M.Moves.moves c.args.moves.now in
    let labels = c.loop-length.labels in
    let length = c.loop-length.length in
    let short : All (λ l. l.hops < length) labels.items =
    All-same (λ l. l.hops < length) labels.items (take c.loop-length.start labels.items) (sym (take_all c.loop-length.start labels.items (omega (arith, labels.ok.0)))) c.loop-length.invariant.layer.before in
    let stays = whole_stays rules moves g.met.R.Resource.laws c.calls-calls.ensures.fitting length (c.args.hops - length) labels.items (omega arith) short c.loop-length.invariant.whole in
    let most : length + (c.args.hops - length) ≡ c.args.hops = omega arith in
    rw c.of.ensures
    (settled rules moves g.met.R.Resource.laws c.calls-calls.ensures.fitting c.args.hops labels.items (subst (λ h. Whole rules moves h labels.items) most stays))

pub returns-clause-settled : goal.returns-clause-settled
returns-clause-settled g c =
    let rules = g.R.Resource.rules in
    let moves = g.M.Moves.moves c.args.moves.now in
    let labels = c.loop-length.labels in
    let most : c.loop-length.length ≡ c.args.hops = omega arith in
    rw c.of-2.ensures
    (settled rules moves g.met.R.Resource.laws c.calls-calls.ensures.fitting c.args.hops labels.items (subst (λ h. Whole rules moves h labels.items) most c.loop-length.invariant.whole))

pub returns-then-hops-eq0-clause-no_more : goal.returns-then-hops-eq0-clause-no_more
returns-then-hops-eq0-clause-no_more g c more =
    let rules = g.R.Resource.rules in
    let moves = g.M.Moves.moves c.args.moves.now in
    let laws = g.met.R.Resource.laws in
    let none : IsSettled rules moves c.args.hops [] = rw c.if-hops-eq0.true (settled rules moves laws c.calls-calls.ensures.fitting 0 [] (whole_none rules moves laws c.calls-calls.ensures.fitting)) in
    absurd (omega (arith, settled_many rules moves c.args.limit c.args.hops [] none more))

pub returns-then-start-end-clause-no_more : goal.returns-then-start-end-clause-no_more
returns-then-start-end-clause-no_more g c more =
    let many = settled_many g.R.Resource.rules (g.M.Moves.moves c.args.moves.now) c.args.limit c.args.hops c.of.result (returns-then-start-end-clause-settled g c) more in
    absurd (omega (arith, rw c.of.ensures at many, c.loop-length.invariant.few))

pub returns-clause-no_more : goal.returns-clause-no_more
returns-clause-no_more g c more =
    let many = settled_many g.R.Resource.rules (g.M.Moves.moves c.args.moves.now) c.args.limit c.args.hops c.of-2.result (returns-clause-settled g c) more in
    absurd (omega (arith, rw c.of-2.ensures at many, c.loop-length.invariant.few))
