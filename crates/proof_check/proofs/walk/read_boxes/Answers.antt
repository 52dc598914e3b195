use Rattle.std.proofs.Common.{◌≡◌, ℕ, ◌+◌, [], ◌∷◌, ap, sym, subst, subst₂, ◌∙◌, arith, false, length, Vec, Global}
use Rattle.std.specs.declared.result.Result.TheVariants.{Ok, Err}
use Rattle.std.proofs.lemmas.Result.{err_from_is_err_and}
use Rattle.orienteering.specs.Decide.{region_rules}
use Rattle.orienteering.specs.Decision.{node_step}
use Rattle.orienteering.specs.declared.Box2.{Box2}
use Rattle.orienteering.specs.declared.CheckFail.TheVariants.{Shape}
use Rattle.orienteering.proofs.SplitLaws.{root_is_proper}
use Rattle.proof_check.specs.Judged.{Gives}
use Rattle.proof_check.specs.Verdict.{decide_boxes}
use Rattle.proof_check.specs.Waiting.{branch}
use Rattle.proof_check.proofs.Reading.{Walked, starts, answers, goes_on, unfinished}
use Rattle.proof_check.proofs.walk.read_boxes.Goals as goal

pub loop-place-init : goal.loop-place-init
loop-place-init c =
    let judge = c.args.judge.now in
    subst₂ (λ boxes pending. Walked judge.inst.now judge.labels judge.points.now c.args.nodes.now boxes pending 0)
    (sym c.new-boxes.ensures.empty)
    (sym (ap (λ b. b.branches) c.in_ok-pending.ensures ∙ ap (λ r. branch r [] false ∷ []) c.in_ok-root.ensures))
    (starts judge.inst.now judge.labels judge.points.now c.args.nodes.now (root_is_proper judge.inst.now))

pub returns-in_err-judged : goal.returns-in_err-judged
returns-in_err-judged c =
    let judge = c.args.judge.now in
    let told = err_from_is_err_and c.from_residual-in_err-judged.result c.from_residual-in_err-judged.ensures.1 in
    rw (told.1, told.2)
    (answers judge.inst.now judge.labels judge.points.now c.args.nodes.now c.loop-place.boxes.keys c.loop-place.pending.branches
    c.loop-place.place c.loop-place.invariant
    (branch c.in-Some.context c.take.new.self.cuts c.in-Some.under_cut) c.take.new.self.branches c.index-nodes-place.result
    c.in-Some.ensures.taken c.loop-place-test.true (sym c.index-nodes-place.is)
    c.in_err-judged.field-0.0
    (subst (λ cuts. Gives (branch c.in-Some.context cuts c.in-Some.under_cut) (Err c.in_err-judged.field-0.0)
    (node_step (region_rules judge.inst.now judge.labels) judge.points.now (c.loop-place.place + 1) (branch c.in-Some.context cuts c.in-Some.under_cut) c.index-nodes-place.result))
    c.cuts.ensures c.in_err-judged.ensures.rule)
    (λ (v : Vec Box2 Global). v.items))

pub loop-place-preserved : goal.loop-place-preserved
loop-place-preserved c =
    let judge = c.args.judge.now in
    subst₂ (λ boxes pending. Walked judge.inst.now judge.labels judge.points.now c.args.nodes.now boxes pending (c.loop-place.place + 1))
    (sym c.in_ok-put.ensures.boxes)
    (sym c.in_ok-put.ensures.branches)
    (goes_on judge.inst.now judge.labels judge.points.now c.args.nodes.now c.loop-place.boxes.keys c.loop-place.pending.branches
    c.loop-place.place c.loop-place.invariant
    (branch c.in-Some.context c.take.new.self.cuts c.in-Some.under_cut) c.take.new.self.branches c.index-nodes-place.result
    c.in-Some.ensures.taken c.loop-place-test.true (sym c.index-nodes-place.is)
    c.in_ok-judged.judged c.in_ok-judged.ensures.proper
    (subst (λ cuts. Gives (branch c.in-Some.context cuts c.in-Some.under_cut) (Ok c.in_ok-judged.judged)
    (node_step (region_rules judge.inst.now judge.labels) judge.points.now (c.loop-place.place + 1) (branch c.in-Some.context cuts c.in-Some.under_cut) c.index-nodes-place.result))
    c.cuts.ensures c.in_ok-judged.ensures.rule))

pub returns-then-not-is_empty : goal.returns-then-not-is_empty
returns-then-not-is_empty c =
    let judge = c.args.judge.now in
    let whole : c.loop-place.place ≡ length c.args.nodes.now = omega (arith, c.loop-place-test.false, c.loop-place.auto.place-end) in
    subst (λ (k : ℕ). decide_boxes judge.inst.now judge.labels judge.points.now c.args.nodes.now ≡ Err (Shape (k + 1))) whole
    (unfinished judge.inst.now judge.labels judge.points.now c.args.nodes.now c.loop-place.boxes.keys c.loop-place.pending.branches
    c.loop-place.place c.loop-place.invariant c.is_empty.result c.is_empty.ensures c.if-not-is_empty.true (omega (arith, c.loop-place-test.false)))
