use Rattle.std.proofs.Common.{leb, rules}
use Rattle.std.proofs.lemmas.Bool.{leb-true, leb-false}
use Rattle.std.proofs.lemmas.List.Sorted.{IsPartitionPoint-from_clause, IsPartitionedBy-leb}
use Rattle.front_archive.proofs.Rising.{times_rise}
use Rattle.orienteering.specs.declared.Listed.{Listed}
use Rattle.front_archive.proofs.no_later_than.Goals as goal

pub returns-clause-place : goal.returns-clause-place
returns-clause-place c =
    let place = IsPartitionPoint-from_clause (λ (h : Listed). leb h.point.time c.args.time) c.args.entries.now
    c.partition_point.result c.partition_point.ensures.partitioned
    (IsPartitionedBy-leb (λ (h : Listed). h.point.time) c.args.entries.now c.args.time (times_rise c.args.entries.now c.requires))
    (λ a r f q. search rules) in (
      λ k d low high. leb-true _ _ (place.0 k d low high),
      λ k d low high. leb-false _ _ (place.1 k d low high),
    )
