use Rattle.std.proofs.Common.{◌≡◌, ◌+◌, ◌%◌, ◌∷◌, [], ◌++◌, length, take, drop, sym, ap, ◌∙◌, subst, arith}
use Rattle.std.specs.List.{All}
use Rattle.std.proofs.lemmas.List.{take_at}
use Rattle.std.proofs.lemmas.List.Elements.{All-same}
use Rattle.std.proofs.lemmas.List.Sorted.{All-permutation}
use Rattle.label_engine.specs.BoundedRows.{replaced}
use Rattle.label_engine.specs.Rivals.{StandsFor}
use Rattle.label_engine.proofs.RowLayers.{All-replaced, row_longer, stands_new}
use Rattle.label_engine.proofs.bounded_rows.keep.Goals as goal

pub returns-clause-row : goal.returns-clause-row
returns-clause-row g c =
    let rules = g.R.Resource.rules in
    let to = c.args.to in
    let label = c.args.label in
    let old = c.args.labels.now.items in
    let row = c.args.row.now in
    let moved = c.is_beaten.new.rivals in
    let place = 16 + c.len.result % 16 in
    let longer = old ++ label ∷ [] in
    let before : All (StandsFor old to) moved =
    All-permutation (StandsFor old to) c.deref_mut.result.now moved c.is_beaten.ensures.rivals (subst (All (StandsFor old to)) (sym c.deref_mut.ensures.value) c.requires.row) in
    let back = take_at moved (drop (length moved) row.items) row.len (omega (arith, c.is_beaten.auto.rivals, c.deref_mut.ensures.len)) in
    let made = c.in_ok-put_rival.ensures ∙ ap (λ l. replaced l place c.copy.result) back ∙ ap (replaced moved place) c.copy.ensures in
    subst (λ ls. All (StandsFor ls to) c.put_rival.new.row.items) (sym c.in_ok-push.ensures.items)
    (All-same (StandsFor longer to) c.put_rival.new.row.items (replaced moved place label.state) made
    (All-replaced (StandsFor longer to) moved place label.state (row_longer rules old (label ∷ []) to moved before) (stands_new rules old label to c.requires.call)))
