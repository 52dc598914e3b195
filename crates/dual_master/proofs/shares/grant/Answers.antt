use Rattle.std.proofs.Common.{◌≡◌, ◌+◌, ◌≤◌, false, true, get_or, subst, sym, ap, ◌∙◌, rules, arith, ◌-◌, if◌then◌else◌}
use Rattle.dual_master.specs.Shares.{IsBalanced, visits}
use Rattle.dual_master.proofs.Values.{given, open_flag}
use Rattle.dual_master.proofs.Balance.{granted}
use Rattle.dual_master.proofs.shares.grant.Goals as goal

pub returns-in_ok-push-in-Some : goal.returns-in_ok-push-in-Some
returns-in_ok-push-in-Some c =
    let g = given c.args.inst.now c.calls.ensures.instance c.args.pool.now c.requires.pool c.args.place c.in-Some.tour.now c.in-Some.field-0-1 c.in-Some.ensures.column in
    let flag : get_or c.args.allowed.now c.args.place false ≡ true = search rules in
    let opened = open_flag c.args.inst.now c.args.ctx.now c.args.pool.now c.args.place c.in-Some.tour.now c.in-Some.field-0-1 false g.there g.within (sym (ap (λ flags. get_or flags c.args.place false) c.requires.allowed) ∙ flag) in
    subst (IsBalanced c.args.inst.now c.args.ctx.now c.args.pool.now (c.args.place + 1) c.take_room.new.room.items (c.args.left - c.least_room-parts.result)) (sym c.in_ok-push-in-Some.ensures.items)
    (granted c.args.inst.now c.args.ctx.now c.args.pool.now c.args.place c.args.room.now.items c.args.left c.args.shares.now.items c.in-Some.tour.now c.in-Some.field-0-1 c.least_room-parts.result c.take_room.new.room.items
    c.requires.balanced g.there g.within opened
    (omega (arith, c.least_room-parts.ensures.most))
    (omega (arith, c.take_room.ensures.size, c.take_room.new.room.ok.0, c.args.room.now.ok.0))
    (λ call. subst (λ tour. get_or c.take_room.new.room.items call 0 + (if visits call tour then c.least_room-parts.result else 0) ≤ get_or c.args.room.now.items call 0) c.calls-in-Some-2.ensures (c.take_room.ensures.rooms call)))
