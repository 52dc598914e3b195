use Rattle.std.proofs.Common.{rules, ◌≡◌, ◌++◌, subst, sym}
use Rattle.std.proofs.lemmas.Result.{IfOk-at_ok}
use Rattle.std.specs.List.{AllZip}
use Rattle.job_pool.proofs.Answered.{AllZip-append}
use Rattle.job_pool.proofs.+part.Goals as goal

pub returns : goal.returns
returns g t c =
    let R = g.J.Job.fits in
    let front = IfOk-at_ok (λ v. AllZip R _ v.items) c.in_ok-answers.was c.join-front_answers.ensures.first in
    let back = IfOk-at_ok (λ v. AllZip R _ v.items) c.in_ok-rest.was c.join-front_answers.ensures.second in
    let whole : c.split_at.result.0.now ++ c.split_at.result.1.now ≡ c.args.jobs.now = search rules in
    let both = AllZip-append R _ _ _ _ front back in
    subst (λ xs. AllZip R xs c.append.new.self.items) whole (subst (AllZip R _) (sym c.in_ok-append.ensures.items) both)
