use Rattle.std.proofs.Common.{◌≡◌, ◌∙◌, ◌+◌, ◌-◌, [], take, ap, sym, subst, arith}
use Rattle.std.proofs.lemmas.Bool.{eqb-true}
use Rattle.orienteering.specs.Instance.{calls}
use Rattle.orienteering.specs.Tour.{IsPlan}
use Rattle.draws.specs.Draws.{start, draws_behind}
use Rattle.insert_heur.specs.Candidates.{ranked}
use Rattle.insert_heur.specs.Insertion.{grown}
use Rattle.insert_heur.proofs.Chosen.{round, stops, no_more, no_tours}
use Rattle.insert_heur.proofs.insertion.build.Goals as goal

pub loop-init : goal.loop-init
loop-init c =
    let p = c.args.inst.now in
    let w = c.args.weight in
    let first = start c.args.seed in
    let whole : calls p - 0 ≡ calls p = omega arith in
    record {
      plan = subst (IsPlan p) (sym c.new-tours.ensures.items) (no_tours p);
      same = ap (λ n. grown p w [] (draws_behind first n)) (sym whole)
          ∙ ap (λ plan. grown p w plan (draws_behind first (calls p - 0))) (sym c.new-tours.ensures.items)
          ∙ ap (λ x. grown p w c.new-tours.result.items (draws_behind x (calls p - 0))) (sym c.of_seed-draws.ensures);
    }

pub put_in-requires-clause-tour : goal.put_in-requires-clause-tour
put_in-requires-clause-tour c =
    (round c.args.inst.now c.args.weight c.loop.tours.items c.loop.draws c.draw-draw.result c.loop.counter c.as_slice-in-loop.result.now
    c.pick-chosen.result (omega (arith, c.loop-test.true, c.calls-end.ensures.value)) c.draw-draw.ensures.value
    (c.as_slice-in-loop.ensures.value ∙ c.in_ok-best.ensures ∙ ap (λ plan. take 3 (ranked c.args.inst.now c.args.weight plan)) c.as_slice.ensures.value)
    c.pick-chosen.ensures).can_go.tour

pub put_in-requires-clause-position : goal.put_in-requires-clause-position
put_in-requires-clause-position c =
    (round c.args.inst.now c.args.weight c.loop.tours.items c.loop.draws c.draw-draw.result c.loop.counter c.as_slice-in-loop.result.now
    c.pick-chosen.result (omega (arith, c.loop-test.true, c.calls-end.ensures.value)) c.draw-draw.ensures.value
    (c.as_slice-in-loop.ensures.value ∙ c.in_ok-best.ensures ∙ ap (λ plan. take 3 (ranked c.args.inst.now c.args.weight plan)) c.as_slice.ensures.value)
    c.pick-chosen.ensures).can_go.position

pub loop-preserved : goal.loop-preserved
loop-preserved c =
    let p = c.args.inst.now in
    let w = c.args.weight in
    let here = round p w c.loop.tours.items c.loop.draws c.draw-draw.result c.loop.counter c.as_slice-in-loop.result.now
    c.pick-chosen.result (omega (arith, c.loop-test.true, c.calls-end.ensures.value)) c.draw-draw.ensures.value
    (c.as_slice-in-loop.ensures.value ∙ c.in_ok-best.ensures ∙ ap (λ plan. take 3 (ranked p w plan)) c.as_slice.ensures.value)
    c.pick-chosen.ensures in
    let left = calls p - (c.loop.counter + 1) in
    record {
      plan = subst (IsPlan p) (sym c.in_ok-put_in.ensures) here.can_go.valid;
      same = c.loop.invariant.same ∙ here.same
          ∙ ap (λ plan. grown p w plan (draws_behind c.draw-draw.result left)) (sym c.in_ok-put_in.ensures)
          ∙ ap (λ x. grown p w c.put_in.new.tours.items (draws_behind x left)) (sym c.draw-draw.ensures.taken);
    }

pub returns-then-is_empty : goal.returns-then-is_empty
returns-then-is_empty c =
    let p = c.args.inst.now in
    let w = c.args.weight in
    let none = eqb-true _ _ (sym c.is_empty.ensures ∙ c.if-is_empty.true) in
    c.from_tours.ensures
    ∙ sym (c.loop.invariant.same
    ∙ stops p w c.loop.tours.items c.loop.draws c.loop.counter c.in_ok-best.best.items
    (omega (arith, c.loop-test.true, c.calls-end.ensures.value))
    (c.in_ok-best.ensures ∙ ap (λ plan. take 3 (ranked p w plan)) c.as_slice.ensures.value)
    (omega (arith, none, c.in_ok-best.best.ok.0)))

pub returns : goal.returns
returns c =
    c.from_tours-2.ensures
    ∙ sym (c.loop.invariant.same
    ∙ no_more c.args.inst.now c.args.weight c.loop.tours.items c.loop.draws c.loop.counter
    (omega (arith, c.loop-test.false, c.calls-end.ensures.value)))
