use Rattle.std.proofs.Common.{rules}
use Rattle.std.specs.Prelude.{nat_lt}
use Rattle.std.proofs.lemmas.Bool.{ltb-true, ltb-false}
use Rattle.std.proofs.lemmas.List.Sorted.{IsPartitionPoint-from_clause, IsPartitionedBy-ltb}
use Rattle.orienteering.specs.declared.Listed.{Listed}
use Rattle.proof_check.proofs.Dominance.{profits_rise}
use Rattle.proof_check.proofs.leaves.first_with.Goals as goal

pub returns-clause-place : goal.returns-clause-place
returns-clause-place c =
    let place = IsPartitionPoint-from_clause (λ (l : Listed). nat_lt l.point.profit c.args.profit) c.args.points.now
    c.partition_point.result c.partition_point.ensures.partitioned
    (IsPartitionedBy-ltb (λ (l : Listed). l.point.profit) c.args.points.now c.args.profit (profits_rise c.args.points.now c.requires))
    (λ a r f q. search rules) in (
      λ k d low high. ltb-true _ _ (place.0 k d low high),
      λ k d low high. ltb-false _ _ (place.1 k d low high),
    )
