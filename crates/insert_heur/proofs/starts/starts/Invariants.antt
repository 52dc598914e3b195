use Rattle.std.proofs.Common.{◌≡◌, map, take}
use Rattle.insert_heur.specs.Insertion.{insertion}
use Rattle.insert_heur.specs.declared.starts.Start.{Start}
use Rattle.insert_heur.proofs.starts.starts.Given as goal

abbrev pub invariant-loop-seed : goal.invariant-loop-seed
invariant-loop-seed l =
    map (λ (job : Start). insertion job.inst.now job.seed job.weight) l.jobs.items ≡ map (λ seed. insertion l.inst seed l.weight) (take l.seed-index l.seeds)
