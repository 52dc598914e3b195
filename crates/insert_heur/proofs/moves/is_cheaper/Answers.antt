use Rattle.std.proofs.Common.{◌∙◌, ◌<◌, ◌≤◌, nat_lt, sym, arith}
use Rattle.orienteering.specs.Tour.{IsPlan, plan_time}
use Rattle.std.proofs.lemmas.Bool.{OnTrue_from, OnFalse_from}
use Rattle.insert_heur.proofs.Refused.{valued, unvalued, less, not_less}
use Rattle.insert_heur.proofs.moves.is_cheaper.Goals as goal

pub returns-in-Ok-clause-yes : goal.returns-in-Ok-clause-yes
returns-in-Ok-clause-yes c =
    let is = valued c.args.inst.now c.args.next.now c.in-Ok.point (sym c.plan_value.ensures ∙ c.in-Ok.is) in
    OnTrue_from (nat_lt c.in-Ok.point.time c.args.time) (IsPlan c.args.inst.now c.args.next.now × (plan_time c.args.inst.now c.args.next.now < c.args.time))
    (λ e. (is.0, omega (arith, is.1, less c.in-Ok.point.time c.args.time e)))

pub returns-in-Ok-clause-no : goal.returns-in-Ok-clause-no
returns-in-Ok-clause-no c =
    let is = valued c.args.inst.now c.args.next.now c.in-Ok.point (sym c.plan_value.ensures ∙ c.in-Ok.is) in
    OnFalse_from (nat_lt c.in-Ok.point.time c.args.time) (IsPlan c.args.inst.now c.args.next.now → c.args.time ≤ plan_time c.args.inst.now c.args.next.now)
    (λ e valid. omega (arith, is.1, not_less c.in-Ok.point.time c.args.time e))

pub returns-in-Err-clause-no : goal.returns-in-Err-clause-no
returns-in-Err-clause-no c =
    λ valid. absurd (unvalued c.args.inst.now c.args.next.now c.in-Err.field-0 (sym c.plan_value.ensures ∙ c.in-Err.is) valid)
