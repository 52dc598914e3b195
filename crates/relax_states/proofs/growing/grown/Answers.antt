use Rattle.std.proofs.Common.{◌≡◌, ℕ, ◌+◌, ◌<◌, List, Bool, true, false, not, Option, None, Some, refl, length, sym, subst, ap, arith}
use Rattle.std.specs.Prelude.{MatchOption}
use Rattle.std.specs.Option.{is_some, is_none}
use Rattle.orienteering.specs.Instance.{calls}
use Rattle.orienteering.specs.Replay.{is_critical_set}
use Rattle.relax_states.specs.CriticalSet.{with_call}
use Rattle.relax_states.specs.Elementary.{states}
use Rattle.relax_states.specs.Growing.{IsReplayed, IsGrown}
use Rattle.relax_states.proofs.Sets.{with_call-is_set, with_call-longer}
use Rattle.relax_states.proofs.Repeated.{repeated_is_new, grown_to_tours, grown_full}
use Rattle.relax_states.proofs.growing.grown.Goals as goal

pub returns-in_default : goal.returns-in_default
returns-in_default c =
    let now = c.loop.now in
    subst (IsGrown c.args.inst.now c.args.ctx.now c.args.price.now c.args.limit) (sym c.into_relaxed.ensures)
    (grown_to_tours c.args.inst.now c.args.ctx.now c.args.price.now c.args.limit c.loop.counter now.critical.items now.outcome c.loop.invariant (sym c.in_default.ensures))

pub extended-requires-clause-set : goal.extended-requires-clause-set
extended-requires-clause-set c =
    let now = c.loop.now in
    let new = repeated_is_new c.args.inst.now c.args.ctx.now c.args.price.now now.critical.items now.outcome c.in-Some.call c.loop.invariant.walk_is (sym c.in-Some.ensures) in
    let room : length now.critical.items < 64 = omega (arith, c.loop.invariant.size_is) in
    subst (λ (xs : List ℕ). is_critical_set (calls c.args.inst.now) (with_call xs c.in-Some.call) ≡ true) (sym c.as_slice.ensures.value)
    (with_call-is_set (calls c.args.inst.now) now.critical.items c.in-Some.call c.loop.invariant.set room new.low new.high new.new)

pub loop-preserved : goal.loop-preserved
loop-preserved c =
    let next = c.in-Some-2.next in
    let longer = with_call-longer c.as_slice.result.now c.in-Some.call in
    let same = ap length c.as_slice.ensures.value in
    let size : length (with_call c.as_slice.result.now c.in-Some.call) ≡ c.loop.counter + 1 = omega (arith, longer, same, c.loop.invariant.size_is) in
    let p = c.args.inst.now in
    let found = subst (λ o. MatchOption o (c.args.limit < states p c.args.ctx.now c.args.price.now (with_call c.as_slice.result.now c.in-Some.call))
    (λ r. IsReplayed p c.args.ctx.now c.args.price.now c.args.limit (length (with_call c.as_slice.result.now c.in-Some.call)) r.critical.items r.outcome)) c.in-Some-2.is c.in_ok-extended.ensures in
    subst (λ (n : ℕ). IsReplayed p c.args.ctx.now c.args.price.now c.args.limit n next.critical.items next.outcome) size found

is_none_is : (o : Option ℕ) (b : Bool) → is_some o ≡ not b → is_none o ≡ b
is_none_is (Some call) true e = sym e
is_none_is (Some call) false e = refl
is_none_is None true e = refl
is_none_is None false e = sym e

pub returns : goal.returns
returns c =
    let now = c.loop.now in
    let full : c.loop.counter ≡ 64 = omega arith in
    let replayed = subst (λ (n : ℕ). IsReplayed c.args.inst.now c.args.ctx.now c.args.price.now c.args.limit n now.critical.items now.outcome) full c.loop.invariant in
    let grown = grown_full c.args.inst.now c.args.ctx.now c.args.price.now c.args.limit now.critical.items now.outcome replayed c.repeated-2.result c.repeated-2.ensures in
    subst (IsGrown c.args.inst.now c.args.ctx.now c.args.price.now c.args.limit) (sym c.into_relaxed-2.ensures)
    (subst (λ (b : Bool). IsGrown c.args.inst.now c.args.ctx.now c.args.price.now c.args.limit (record { critical = now.critical.items; outcome = now.outcome; elementary = b })) (is_none_is c.repeated-2.result c.is_none-elementary.result c.is_none-elementary.ensures) grown)
