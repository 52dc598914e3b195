use Rattle.std.proofs.Common.{◌≤◌, ◌+◌}
use Rattle.region_ctx.specs.Links.{AreSingle}
use Rattle.region_ctx.proofs.Cycles.{Reaches, Remains}
use Rattle.region_ctx.proofs.context.Context.comes_back.Given as goal

abbrev pub invariant-loop-steps : goal.invariant-loop-steps
invariant-loop-steps l =
    record {
      low : 1 ≤ l.place;
      high : l.place ≤ l.self.calls + 1;
      reaches : (s : AreSingle l.self.calls l.self.used) → Reaches l.self s l.call l.place l.steps;
      remains : (s : AreSingle l.self.calls l.self.used) → Remains l.self s l.call l.place l.steps;
    }
