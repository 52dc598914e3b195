use Rattle.std.proofs.lemmas.Result.{err_from_is_err_and}
use Rattle.text_parts.specs.Reading.{list_at}
use Rattle.text_parts.proofs.Loops.{list_goes_on, list_ends, list_is_done}
use Rattle.text_parts.proofs.part.list.Goals as goal

pub returns-in_err-item : goal.returns-in_err-item
returns-in_err-item g c =
    let p = err_from_is_err_and c.from_residual.result c.from_residual.ensures.1 in
    rw (p.1, p.2) (list_ends g.P.ReadPart.reading c.in_err-item.field-0.0 c.loop.items.items c.args.count c.loop.counter c.loop.rest.now (list_at c.args.count g.P.ReadPart.reading c.args.bytes.now) c.loop-test.true c.in_err-item.ensures c.loop.invariant)

pub loop-preserved : goal.loop-preserved
loop-preserved g c =
    rw c.in_ok-push.ensures.items
    (list_goes_on g.P.ReadPart.reading c.loop.items.items c.args.count c.loop.counter c.loop.rest.now c.in_ok-item.item c.in_ok-item.after.now (list_at c.args.count g.P.ReadPart.reading c.args.bytes.now) c.loop-test.true c.in_ok-item.ensures c.loop.invariant)

pub returns : goal.returns
returns g c =
    list_is_done g.P.ReadPart.reading c.loop.items.items c.args.count c.loop.counter c.loop.rest.now (list_at c.args.count g.P.ReadPart.reading c.args.bytes.now) c.loop-test.false c.loop.invariant
