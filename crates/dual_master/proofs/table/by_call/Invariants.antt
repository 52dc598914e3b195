use Rattle.std.proofs.Common.{◌≡◌, ℕ, ◌+◌, ◌-◌, ◌≤◌, pos, drop, length, slice_index_or}
use Rattle.orienteering.specs.Price.{price_of}
use Rattle.dual_master.proofs.table.by_call.Given as goal

abbrev pub invariant-loop-back : goal.invariant-loop-back
invariant-loop-back l = record {
  size : length l.table.items ≡ l.calls + 1;
  prices : (call : ℕ) → call ≤ l.calls →
      slice_index_or l.table.items call (pos 0) ≡ price_of (drop (length l.entries - l.back) l.entries) call;
}
