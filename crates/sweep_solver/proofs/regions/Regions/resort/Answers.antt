use Rattle.std.proofs.Common.{inl, inr}
use Rattle.orienteering.proofs.RegionTests.{tested_if_stuck}
use Rattle.orienteering.proofs.DecidedRegions.{stuck_or_realised}
use Rattle.sweep_solver.specs.Narrowing.{arc_serves, plan_serves}
use Rattle.sweep_solver.proofs.regions.Regions.resort.Goals as goal

pub returns-in-Some : goal.returns-in-Some
returns-in-Some c =
    arc_serves c.args.self.now.inst.now c.args.self.now.labels c.args.ctx.now c.in-Some.i c.in-Some.j c.in-Some.ensures.some

pub returns-in-Some-stuck_reason : goal.returns-in-Some-stuck_reason
returns-in-Some-stuck_reason c =
    tested_if_stuck c.args.self.now.inst.now c.args.ctx.now c.requires c.in-Some-stuck_reason.reason
    c.in-Some-stuck_reason.ensures.some

pub returns : goal.returns
returns c =
    let p = c.args.self.now.inst.now in
    let r = c.args.ctx.now in
    elim (stuck_or_realised p r c.requires c.in_default.ensures.none) [
      | inl stuck ↦ absurd (c.in_default-stuck_reason.ensures.none stuck.0 stuck.1)
      | inr realised ↦
          plan_serves p c.args.self.now.labels r c.in_ok-plan_of_used_arcs.field-0
          (c.in_ok-plan_of_used_arcs.ensures realised.0 realised.1)
    ]
