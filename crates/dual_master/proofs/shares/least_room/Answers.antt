use Rattle.std.proofs.Common.{◌≤◌, get_or, subst, sym, arith}
use Rattle.std.specs.List.{AllByRecursion}
use Rattle.std.proofs.lemmas.List.{take_more}
use Rattle.orienteering.proofs.Lists.{AllByRecursion-push, AllByRecursion-weaker}
use Rattle.dual_master.proofs.shares.least_room.Goals as goal

pub loop-call-preserved : goal.loop-call-preserved
loop-call-preserved c =
    let room = c.args.room.now in
    let calls = c.args.calls.now in
    let less : c.min-least.result ≤ c.loop-call.least = omega arith in
    let here : c.min-least.result ≤ get_or room (get_or calls c.loop-call.call-index 0) 0 = omega arith in
    record {
      most = omega arith;
      rooms = subst (AllByRecursion (λ call. c.min-least.result ≤ get_or room call 0)) (sym (take_more calls c.loop-call.call-index 0 c.loop-call-test.true))
          (AllByRecursion-push (λ call. c.min-least.result ≤ get_or room call 0) _ _
          (AllByRecursion-weaker (λ call. c.loop-call.least ≤ get_or room call 0) (λ call. c.min-least.result ≤ get_or room call 0) (λ call h. omega (arith, h, less)) _ c.loop-call.invariant.rooms) here);
    }
