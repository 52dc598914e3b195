use Rattle.label_engine.specs.Known.{Knows}
use Rattle.label_engine.specs.Layer.{Bucket}
use Rattle.label_engine.specs.Rivals.{AreRivals}
use Rattle.label_engine.proofs.bucket.fill_bucket.Given as goal

abbrev pub invariant-loop-place : goal.invariant-loop-place
invariant-loop-place g l = record {
  filled : Bucket g.R.Resource.rules (g.M.Moves.moves l.moves) g.R.Resource.fits l.hops l.start l.labels l.bucket.items l.to l.place;
  rivals : AreRivals g.R.Resource.rules l.labels l.to l.rivals;
  known : Knows (g.M.Moves.moves l.moves) l.to l.known;
}
