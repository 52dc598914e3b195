use Rattle.std.proofs.Common.{◌≡◌, drop}
use Rattle.orienteering.specs.Price.{price_of}
use Rattle.label_engine.proofs.cut_moves.price_of.Given as goal

abbrev pub invariant-loop-priced : goal.invariant-loop-priced
invariant-loop-priced l = price_of (drop l.priced-index l.entries) l.call ≡ price_of l.entries l.call
