use Rattle.std.proofs.Common.{◌≡◌, ◌*◌, ◌^◌, take}
use Rattle.price_bound.specs.Magnitude.{IsWithin}
use Rattle.dual_master.specs.Shares.{all_parts, worth_of}
use Rattle.dual_master.proofs.shares.worth_of.Given as goal

abbrev pub invariant-loop-share : goal.invariant-loop-share
invariant-loop-share l = record {
  value : l.sum ≡ worth_of l.price l.pool (take l.share-index l.shares);
  within : IsWithin (all_parts (take l.share-index l.shares) * (2 * 10 ^ 17)) l.sum;
}
