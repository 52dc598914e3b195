use Rattle.std.specs.Prelude.{FitsSigned}
use Rattle.std.proofs.Common.{rules, ap, sym, subst, ◌∙◌, to_z, of_z}
use Rattle.std.specs.Int.{w128}
use Rattle.std.proofs.lemmas.Int.{to_z-of_z}
use Rattle.std.specs.declared.result.Result.TheVariants.{Ok, Err}
use Rattle.orienteering.specs.Decide.{region_rules}
use Rattle.orienteering.specs.Decision.{replay_step}
use Rattle.proof_check.specs.Judged.{Gives, branch_at}
use Rattle.proof_check.specs.declared.judge.Judged.TheVariants.{Below}
use Rattle.proof_check.proofs.Replays.{gives_bound, gives_refusal}
use Rattle.proof_check.proofs.replay.replay.Goals as goal

pub returns-in-Ok-clause-rule : goal.returns-in-Ok-clause-rule
returns-in-Ok-clause-rule c =
    let judge = c.args.judge.now in
    let spot = c.args.spot.now in
    let fits : FitsSigned w128 c.bound-bound.result = search rules in
    subst (λ cut. Gives (branch_at spot) (Ok (Below cut)) (replay_step (region_rules judge.inst.now judge.labels) judge.points.now spot.index
    (branch_at spot) c.args.price.now c.args.critical.now))
    (sym c.cut_on_path.ensures)
    (gives_bound judge.inst.now judge.labels judge.points.now spot.index (branch_at spot) c.args.price.now c.args.critical.now
    c.in-Ok.sigma (to_z w128 (of_z w128 c.bound-bound.result)) c.in-Ok.ensures.value
    (to_z-of_z w128 c.bound-bound.result fits ∙ c.bound-bound.ensures) c.in-Ok.ensures.few)

pub returns-in-Err-clause-rule : goal.returns-in-Err-clause-rule
returns-in-Err-clause-rule c =
    let judge = c.args.judge.now in
    rw c.refusal_of.ensures
    (gives_refusal judge.inst.now judge.labels judge.points.now c.args.spot.now.index (branch_at c.args.spot.now) c.args.price.now
    c.args.critical.now c.in-Err.fail (λ e. c.in-Err.ensures.many (ap (λ f. Err f) e)))
