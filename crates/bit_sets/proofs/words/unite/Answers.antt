use Rattle.std.proofs.Common.{arith}
use Rattle.bit_sets.proofs.Unions.{has_bit-united}
use Rattle.bit_sets.proofs.words.unite.Goals as goal

pub returns : goal.returns
returns c =
    has_bit-united c.args.words.now c.loop-place.words c.args.others.now (omega arith)
    (λ k within. c.loop-place.invariant.joined k (omega arith)) (λ k past. c.loop-place.invariant.kept k (omega arith))
