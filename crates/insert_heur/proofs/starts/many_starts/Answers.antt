use Rattle.std.proofs.Common.{◌∙◌, ℕ, List, map, ap}
use Rattle.std.proofs.lemmas.Result.{IfOk-weaker}
use Rattle.std.proofs.lemmas.Slice.Zip.{AllZip-map}
use Rattle.insert_heur.specs.Insertion.{insertion}
use Rattle.insert_heur.specs.declared.starts.Start.{Start}
use Rattle.insert_heur.proofs.starts.many_starts.Goals as goal

pub returns : goal.returns
returns g c =
    let plan_of : Start → List (List ℕ) = λ job. insertion job.inst.now job.seed job.weight in
    IfOk-weaker c.run_jobs.result _ _
    (λ plans fit. AllZip-map plan_of c.as_slice.result.now plans.items fit ∙ ap (map plan_of) c.as_slice.ensures.value ∙ c.in_ok-jobs.ensures)
    c.run_jobs.ensures
