use Rattle.std.proofs.Common.{◌≤◌, ◌+◌}
use Rattle.region_ctx.specs.Links.{AreSingle}
use Rattle.region_ctx.proofs.Lateness.{Walked, Awaits}
use Rattle.region_ctx.proofs.context.Context.runs_late.Given as goal

abbrev pub invariant-loop-steps : goal.invariant-loop-steps
invariant-loop-steps l =
    record {
      from_within : l.from ≤ l.self.calls;
      to_low : 1 ≤ l.to;
      to_high : l.to ≤ l.self.calls + 1;
      clock : l.clock ≤ 100000000;
      walked : (s : AreSingle l.self.calls l.self.used) → Walked l.inst l.self s l.start l.first l.clock l.from l.to;
      awaits : (s : AreSingle l.self.calls l.self.used) → Awaits l.inst l.self s l.start l.first l.clock l.from l.to l.steps;
    }
