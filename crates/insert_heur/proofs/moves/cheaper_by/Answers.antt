use Rattle.std.proofs.Common.{◌∙◌, ap, sym}
use Rattle.std.proofs.lemmas.Result.{IfOk-weaker}
use Rattle.std.specs.List.{concat}
use Rattle.orienteering.specs.PlanCheck.{is_one_of}
use Rattle.insert_heur.proofs.Moved.{better_or_settled}
use Rattle.insert_heur.proofs.moves.cheaper_by.Goals as goal

pub returns-then-some_visits : goal.returns-then-some_visits
returns-then-some_visits c =
    let visited = ap (λ ts. is_one_of (concat ts) c.args.call) (sym c.tours.ensures) ∙ sym c.some_visits.ensures ∙ c.if-some_visits.true in
    IfOk-weaker c.cheaper_with.result _ _
    (better_or_settled c.args.inst.now c.args.plan.now c.args.time c.args.call c.requires.time visited) c.cheaper_with.ensures
