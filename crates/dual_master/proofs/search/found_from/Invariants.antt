use Rattle.std.proofs.Common.{◌≡◌, length, vec_len}
use Rattle.dual_master.specs.Search.{IsSearch}
use Rattle.dual_master.proofs.search.found_from.Given as goal

abbrev pub invariant-loop-round : goal.invariant-loop-round
invariant-loop-round l = record {
  search : IsSearch l.ctx.calls l.search;
  wanted : vec_len l.search.wanted ≡ length l.pool;
}
