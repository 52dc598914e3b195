use Rattle.std.proofs.Common.{◌≡◌, vec_len}
use Rattle.dual_master.proofs.search.add_visits.Given as goal

abbrev pub invariant-loop-place : goal.invariant-loop-place
invariant-loop-place l = vec_len l.visits ≡ vec_len l.fn.visits
