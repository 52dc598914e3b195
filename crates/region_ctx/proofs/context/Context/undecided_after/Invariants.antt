use Rattle.std.proofs.Common.{◌≡◌, ◌-◌, ◌≤◌, count_by}
use Rattle.std.specs.List.{range_with_len}
use Rattle.orienteering.specs.Region.{is_undecided}
use Rattle.region_ctx.proofs.context.Context.undecided_after.Given as goal

abbrev pub invariant-loop-j : goal.invariant-loop-j
invariant-loop-j l =
    record {
      value : l.count ≡ count_by (is_undecided l.self l.i) (range_with_len 1 (l.j - 1));
      limit : l.count ≤ l.j - 1;
    }
