use Rattle.orienteering.specs.Region.{is_forced}
use Rattle.orienteering.proofs.PriceTests.{price_right}
use Rattle.sweep_solver.proofs.regions.Regions.replayed_bound.Goals as goal

pub replay_cut-requires-clause-fit : goal.replay_cut-requires-clause-fit
replay_cut-requires-clause-fit c =
    price_right c.args.self.now.inst.now (is_forced c.args.ctx.now) c.args.price.now c.requires.fit
