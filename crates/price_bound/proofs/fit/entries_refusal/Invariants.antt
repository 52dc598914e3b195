use Rattle.std.proofs.Common.{◌≡◌, ◌+◌, drop}
use Rattle.orienteering.specs.Price.{entries_refusal}
use Rattle.orienteering.specs.Region.{is_forced}
use Rattle.price_bound.proofs.fit.entries_refusal.Given as goal

abbrev pub invariant-loop-index : goal.invariant-loop-index
invariant-loop-index l =
    entries_refusal l.ctx.calls (is_forced l.ctx) 0 1 l.entries
    ≡ entries_refusal l.ctx.calls (is_forced l.ctx) l.before (l.index + 1) (drop l.index l.entries)
