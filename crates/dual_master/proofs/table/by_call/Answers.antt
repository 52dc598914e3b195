use Rattle.std.proofs.Common.{◌≡◌, ◌+◌, ◌-◌, ◌<◌, pos, length, drop, get_or, set, sym, ap, ◌∙◌, ◌∷◌, arith, to_z, of_z, w64, length-set}
use Rattle.std.proofs.lemmas.Int.{ints}
use Rattle.std.proofs.lemmas.List.{drop_more}
use Rattle.orienteering.specs.Price.{price_of}
use Rattle.dual_master.proofs.Tables.{rising-at, written}
use Rattle.dual_master.proofs.table.by_call.Goals as goal

pub index_mut-requires : goal.index_mut-requires
index_mut-requires c =
    let k = length c.args.entries.now - 1 - c.loop-back.back in
    let within = rising-at c.args.calls 0 c.args.entries.now k (0, pos 0) c.requires.rising (omega arith) in
    let size = c.loop-back.invariant.size in
    omega (arith, within, size)

pub loop-back-preserved : goal.loop-back-preserved
loop-back-preserved c =
    let entries = c.args.entries.now in
    let k = length entries - 1 - c.loop-back.back in
    let e = get_or entries k (0, pos 0) in
    let same : to_z w64 (of_z w64 e.1) ≡ e.1 = omega (arith, ints) in
    let within = rising-at c.args.calls 0 entries k (0, pos 0) c.requires.rising (omega arith) in
    let size = c.loop-back.invariant.size in
    let here : e.0 < length c.loop-back.table.items = omega (arith, within, size) in
    let next : length entries - (c.loop-back.back + 1) ≡ k = omega arith in
    let later : k + 1 ≡ length entries - c.loop-back.back = omega arith in
    let rest : drop k entries ≡ e ∷ drop (length entries - c.loop-back.back) entries = drop_more entries k (0, pos 0) (omega arith) ∙ ap (λ m. e ∷ drop m entries) later in
    record {
      size = length-set _ _ _ ∙ size;
      prices = λ call h.
          ap (λ z. get_or (set c.loop-back.table.items e.0 z) call (pos 0)) same
          ∙ written c.loop-back.table.items e (drop (length entries - c.loop-back.back) entries) call here (c.loop-back.invariant.prices call h)
          ∙ ap (λ es. price_of es call) (sym rest ∙ ap (λ m. drop m entries) (sym next));
    }
