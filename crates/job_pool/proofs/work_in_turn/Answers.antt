use Rattle.std.proofs.Common.{◌++◌, [], ◌∷◌, subst, sym}
use Rattle.std.proofs.lemmas.List.{take_more}
use Rattle.std.proofs.lemmas.Slice.Zip.{all_zipped_more}
use Rattle.std.specs.List.{AllZip}
use Rattle.job_pool.proofs.work_in_turn.Goals as goal

pub loop-index-preserved : goal.loop-index-preserved
loop-index-preserved g c =
    let R = g.J.Job.fits in
    let job = c.index-jobs-index.result in
    let more = all_zipped_more R _ _ job c.in_ok-work.field-0 c.loop-index.invariant c.in_ok-work.ensures in
    let taken = take_more c.args.jobs.now c.loop-index.index job c.loop-index-test.true in
    subst (AllZip R _) (sym c.in_ok-push.ensures.items)
    (subst (λ xs. AllZip R xs (c.loop-index.answers.items ++ c.in_ok-work.field-0 ∷ [])) (sym (rw (← c.index-jobs-index.is) at taken)) more)
