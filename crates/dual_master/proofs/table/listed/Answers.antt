use Rattle.std.proofs.Common.{◌≡◌, to_z, of_z, w64, subst, sym, arith}
use Rattle.std.proofs.lemmas.Int.{ints}
use Rattle.orienteering.specs.Price.{IsFitEntry}
use Rattle.orienteering.specs.Region.{is_forced}
use Rattle.dual_master.proofs.Tables.{not_listed, one_listed}
use Rattle.dual_master.proofs.table.listed.Goals as goal
use Rattle.dual_master.proofs.table.listed.Goals.{then-price-ne0+in_ok-push, else-price-ne0}

pub loop-call-preserved : goal.loop-call-preserved
loop-call-preserved c =
    let forced = is_forced c.args.ctx.now in
    let call = c.loop-call.call in
    let price = c.rounded-price.result in
    let above = c.rounded-price.ensures.above in
    let fit : IsFitEntry forced (call, price) = record {
      size = c.rounded-price.ensures.within;
      negative = λ h. c.lowest.ensures.negative (omega (arith, ints, h, above));
    } in
    elim c.if-price-ne0.branch [
      | then-price-ne0+in_ok-push w ↦
          let same : to_z w64 (of_z w64 price) ≡ price = omega (arith, ints) in
          rw (w.entries-is, w.in_ok-push.ensures.items)
          (one_listed forced call (to_z w64 (of_z w64 price)) c.loop-call.entries.items (omega arith)
          (subst (λ z. IsFitEntry forced (call, z)) (sym same) fit) c.loop-call.invariant)
      | else-price-ne0 w ↦ rw w.entries-is (not_listed forced call c.loop-call.entries.items (omega arith) c.loop-call.invariant)
    ]
