use Rattle.std.proofs.Common.{ℕ, ◌<◌, ◌≤◌, IsTrue}
use Rattle.orienteering.specs.Region.{is_used}
use Rattle.region_ctx.specs.Walks.{IsLateFrom}
use Rattle.region_ctx.proofs.context.Context.begins_late.Given as goal

abbrev pub invariant-loop-first : goal.invariant-loop-first
invariant-loop-first l =
    (k : ℕ) → 1 ≤ k → k < l.first → IsTrue (is_used l.self 0 k) → IsLateFrom l.inst l.self 0 k → ⊥
