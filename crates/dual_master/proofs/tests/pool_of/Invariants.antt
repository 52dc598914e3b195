use Rattle.pool_cols.specs.Pool.{IsPoolOf}
use Rattle.dual_master.proofs.tests.pool_of.Given as goal

abbrev pub invariant-loop-before : goal.invariant-loop-before
invariant-loop-before l = IsPoolOf l.inst l.pool
