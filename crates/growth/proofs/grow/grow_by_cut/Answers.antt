use Rattle.std.proofs.Common.{ℤ, ap, sym, ◌∙◌}
use Rattle.std.specs.Int.{w128}
use Rattle.std.proofs.lemmas.Int.{to_z-of_z}
use Rattle.growth.proofs.Growing.{cut_grows}
use Rattle.growth.proofs.grow.grow_by_cut.Goals as goal

pub returns-clause-grows : goal.returns-clause-grows
returns-clause-grows g c =
    cut_grows (g.W.World.rules c.args.world.now) c.args.archive.now c.args.branch c.in_ok-below.below c.args.price c.args.critical
    c.args.bound _ c.args.nodes.now.items c.push.new.self.items c.args.pending.now.items c.push-2.new.self.items
    (sym c.is_under_cut.ensures ∙ c.if-is_under_cut.false) c.requires.replayed
    (ap (λ (b : ℤ). record { alpha = c.args.price.alpha; beta = c.args.price.beta; bound = b })
    (to_z-of_z w128 c.args.bound c.ranges.bound))
    c.in_ok-below.ensures c.in_ok-push.ensures.items c.in_ok-push-2.ensures.items
