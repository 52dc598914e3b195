use Rattle.std.proofs.Common.{ltb, rules}
use Rattle.std.proofs.lemmas.Bool.{ltb-true, ltb-false}
use Rattle.std.proofs.lemmas.List.Sorted.{IsPartitionPoint-from_clause, IsPartitionedBy-ltb}
use Rattle.front_archive.proofs.Rising.{times_rise}
use Rattle.orienteering.specs.declared.Listed.{Listed}
use Rattle.front_archive.proofs.earlier_than.Goals as goal

pub returns-clause-place : goal.returns-clause-place
returns-clause-place c =
    let place = IsPartitionPoint-from_clause (λ (h : Listed). ltb h.point.time c.args.time) c.args.entries.now
    c.partition_point.result c.partition_point.ensures.partitioned
    (IsPartitionedBy-ltb (λ (h : Listed). h.point.time) c.args.entries.now c.args.time (times_rise c.args.entries.now c.requires))
    (λ a r f q. search rules) in (
      λ k d low high. ltb-true _ _ (place.0 k d low high),
      λ k d low high. ltb-false _ _ (place.1 k d low high),
    )
