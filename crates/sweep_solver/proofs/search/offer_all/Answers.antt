use Rattle.std.proofs.Common.{length, ap, subst, arith}
use Rattle.std.specs.Vec.Iter.{into_iter_items}
use Rattle.growth.proofs.Archives.{improves_same, improves_then}
use Rattle.growth.proofs.Regrowing.{empty_from}
use Rattle.sweep_solver.specs.Solved.{CoversPlans}
use Rattle.sweep_solver.proofs.Starts.{first_more, none_left}
use Rattle.sweep_solver.proofs.search.offer_all.Goals as goal

pub loop-plan-preserved : goal.loop-plan-preserved
loop-plan-preserved c =
    let rest = into_iter_items c.next.new.self in
    let steps = c.in-Some.ensures.steps in
    record {
      can_next = tt;
      is_finite = tt;
      archive = c.offer.ensures.archive;
      improved = improves_then _ _ _ c.loop-plan.invariant.improved c.offer.ensures.improved;
      covered = λ points improves covered.
          c.loop-plan.invariant.covered points (improves_then _ _ _ c.offer.ensures.improved improves)
          (first_more c.args.inst.now (into_iter_items c.loop-plan.plan-iterator) rest c.in-Some.plan c.offer.new.archive points
          steps.0 c.in_ok-offer.ensures.held improves covered);
      count =
          let was = c.loop-plan.invariant.count in
          let gone = steps.1 in
          let short = ap length steps.0 in
          omega arith;
    }

pub returns-in_err-offer-clause-improved : goal.returns-in_err-offer-clause-improved
returns-in_err-offer-clause-improved c =
    improves_then _ _ _ c.loop-plan.invariant.improved c.offer.ensures.improved

pub returns-clause-covered : goal.returns-clause-covered
returns-clause-covered c =
    let at = c.loop-plan in
    let none = c.in-None.ensures.steps in
    let few = at.invariant.count in
    let empty = empty_from (into_iter_items at.plan-iterator) (omega (arith, none.0, few)) in
    subst (λ plans. CoversPlans c.args.inst.now plans at.archive) c.into_iter-plan-iterator.ensures.into_iter_gives.0
    (at.invariant.covered at.archive (improves_same at.archive)
    (none_left c.args.inst.now (into_iter_items at.plan-iterator) at.archive empty))
