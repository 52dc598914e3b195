use Rattle.std.proofs.Common.{rules, ◌≡◌, ◌+◌, ◌<◌, ℕ, List, take, get_or, Bool, true, false, arith, sym, ap, subst, ◌∙◌}
use Rattle.std.specs.Prelude.{not}
use Rattle.bit_sets.specs.NumberSet.{member}
use Rattle.orienteering.specs.PlanCheck.{is_one_of}
use Rattle.tour_check.specs.Seen.{HasSame}
use Rattle.tour_check.proofs.Held.{held-next}
use Rattle.tour_check.proofs.NextCall.{rest_refusal-next}
use Rattle.tour_check.proofs.refusal.tour_refusal.Goals as goal

not_true : (b : Bool) → not b ≡ true → b ≡ false
not_true false h = search rules
not_true true h = sym h

pub loop-next-preserved : goal.loop-next-preserved
loop-next-preserved c =
    let tour = c.args.tour.now in
    let k = c.loop-next.next-index in
    let call = get_or tour k 0 in
    record {
      place = search rules;
      clock = search rules;
      held = subst (λ held. HasSame held (take (k + 1) tour)) (sym c.insert_small.ensures.added) (held-next c.loop-next.seen tour k c.loop-next-test.true c.loop-next.invariant.held);
      same =
          c.loop-next.invariant.same
          ∙ rest_refusal-next c.args.inst.now tour k c.loop-next.place c.loop-next.clock c.in-Some.arrival c.loop-next-test.true
          (sym c.is_call.ensures.value ∙ c.if-not-is_call.false)
          (sym (c.loop-next.invariant.held call) ∙ not_true (member call c.loop-next.seen) (sym c.insert_small.ensures.fresh ∙ c.if-not-insert_small.false))
          (sym c.clock_step.ensures.value ∙ c.in-Some.is);
    }
