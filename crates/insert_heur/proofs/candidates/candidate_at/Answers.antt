use Rattle.std.proofs.Common.{◌∙◌, cond, ap, sym, rules}
use Rattle.std.proofs.lemmas.Int.{to_z-of_z}
use mir.Syntax.{w128}
use Rattle.std.specs.List.{insert}
use Rattle.std.specs.Prelude.{ℤ, pos, int_lt}
use Rattle.std.specs.declared.option.Option.TheVariants.{None, Some}
use Rattle.insert_heur.specs.Walk.{time_of}
use Rattle.insert_heur.proofs.Growth.{no_room, too_late, in_time_by_gain}
use Rattle.insert_heur.proofs.candidates.candidate_at.Goals as goal

pub returns-then-not-has_room : goal.returns-then-not-has_room
returns-then-not-has_room c =
    sym (no_room c.args.inst.now c.args.weight c.args.plan.now c.args.call c.args.tour c.args.position
    (sym c.has_room.ensures ∙ c.if-not-has_room.true))

pub returns-in_err-time : goal.returns-in_err-time
returns-in_err-time c =
    c.from_residual.ensures
    ∙ sym (too_late c.args.inst.now c.args.weight c.args.plan.now c.args.call c.args.tour c.args.position
    (ap (λ calls. time_of c.args.inst.now (insert calls c.args.position c.args.call)) (sym c.tour_at.ensures)
    ∙ sym c.time_with.ensures.value ∙ c.in_err-time.was))

pub returns-then-gain-gt0 : goal.returns-then-gain-gt0
returns-then-gain-gt0 c =
    let kept = to_z-of_z w128 c.gain-gain.result (search rules) in
    let found = in_time_by_gain c.args.inst.now c.args.weight c.args.plan.now c.args.call c.args.tour c.args.position c.requires.plan c.requires.call c.requires.unvisited c.requires.tour
    (sym c.has_room.ensures ∙ c.if-not-has_room.false) c.in_ok-time.time c.args.spent c.gain-gain.result
    (ap (λ calls. time_of c.args.inst.now (insert calls c.args.position c.args.call)) (sym c.tour_at.ensures)
    ∙ sym c.time_with.ensures.value ∙ c.in_ok-time.was) c.requires.spent c.gain-gain.ensures in
    ap (λ (n : ℤ). Some (record { gain = n; call = c.args.call; tour = c.args.tour; position = c.args.position })) kept
    ∙ sym (found ∙ ap (λ b. cond b (Some (record { gain = c.gain-gain.result; call = c.args.call; tour = c.args.tour; position = c.args.position })) None)
    (ap (λ n. int_lt (pos 0) n) (sym kept) ∙ c.if-gain-gt0.true))

pub returns-else-gain-gt0 : goal.returns-else-gain-gt0
returns-else-gain-gt0 c =
    let kept = to_z-of_z w128 c.gain-gain.result (search rules) in
    let found = in_time_by_gain c.args.inst.now c.args.weight c.args.plan.now c.args.call c.args.tour c.args.position c.requires.plan c.requires.call c.requires.unvisited c.requires.tour
    (sym c.has_room.ensures ∙ c.if-not-has_room.false) c.in_ok-time.time c.args.spent c.gain-gain.result
    (ap (λ calls. time_of c.args.inst.now (insert calls c.args.position c.args.call)) (sym c.tour_at.ensures)
    ∙ sym c.time_with.ensures.value ∙ c.in_ok-time.was) c.requires.spent c.gain-gain.ensures in
    sym (found ∙ ap (λ b. cond b (Some (record { gain = c.gain-gain.result; call = c.args.call; tour = c.args.tour; position = c.args.position })) None)
    (ap (λ n. int_lt (pos 0) n) (sym kept) ∙ c.if-gain-gt0.false))
