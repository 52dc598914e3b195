use Rattle.std.proofs.Common.{arith}
use Rattle.growth.proofs.Archives.{improves_same, improves_then}
use Rattle.growth.proofs.Regrowing.{empty_from}
use Rattle.sweep_solver.proofs.Starts.{none_left, one_more}
use Rattle.sweep_solver.proofs.search.archive_of.Goals as goal

pub loop-plan-preserved : goal.loop-plan-preserved
loop-plan-preserved c =
    record {
      archive = c.offer-in-Some.ensures.archive;
      covered = λ points improves covered.
          c.loop-plan.invariant.covered points (improves_then _ _ _ c.offer-in-Some.ensures.improved improves)
          (one_more c.args.inst.now c.loop-plan.left.items c.pop.new.self.items c.in-Some.plan c.offer-in-Some.new.archive points
          c.in-Some.ensures.items c.in_ok-offer-2.ensures.held improves covered);
    }

pub returns-clause-covered : goal.returns-clause-covered
returns-clause-covered c =
    c.loop-plan.invariant.covered c.loop-plan.archive (improves_same c.loop-plan.archive)
    (none_left c.args.inst.now c.loop-plan.left.items c.loop-plan.archive
    (empty_from c.loop-plan.left.items (omega (arith, c.in_default.ensures.cases, c.loop-plan.left.ok))))
