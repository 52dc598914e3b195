use Rattle.std.proofs.Common.{◌∙◌, ◌≡◌, ◌+◌, ◌-◌, ◌++◌, [], ap, arith}
use Rattle.std.specs.List.{flat_map, range_with_len}
use Rattle.insert_heur.specs.Candidates.{at_call}
use Rattle.insert_heur.proofs.Ranges.{flat_map_one}
use Rattle.insert_heur.proofs.candidates.all_candidates.Goals as goal

pub loop-call-preserved : goal.loop-call-preserved
loop-call-preserved c =
    let at = at_call c.args.inst.now c.args.weight c.args.plan.now in
    let call = c.loop-call.call in
    let more : call - 1 + 1 ≡ call + 1 - 1 = omega (arith, c.loop-call.auto.call) in
    c.in_ok-add_at_call.ensures
    ∙ ap (λ xs. xs ++ at call) c.loop-call.invariant
    ∙ flat_map_one at [] 1 (call - 1) call (omega (arith, c.loop-call.auto.call))
    ∙ ap (λ n. flat_map at (range_with_len 1 n)) more
