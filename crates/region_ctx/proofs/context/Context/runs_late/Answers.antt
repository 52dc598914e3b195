use Rattle.std.proofs.Common.{◌≡◌, ◌≤◌, true≢false, sym, refl, subst, arith, true, ℕ}
use Rattle.orienteering.specs.Region.{is_used}
use Rattle.region_ctx.proofs.Lateness.{walked_at_first, awaits_at_first, walked_on, awaits_on, late_found, no_way_late, round_is_not_late, too_long}
use Rattle.region_ctx.proofs.context.Context.runs_late.Goals as goal

-- a number from 1 on is not 0
positive : (n : ℕ) → 1 ≤ n → n ≡ 0 → ⊥
positive n low z = omega arith

pub loop-steps-init : goal.loop-steps-init
loop-steps-init c =
    record {
      from_within = c.requires.start_within;
      to_low = c.requires.first_low;
      to_high = c.requires.first_high;
      clock = c.opening-clock.ensures.within;
      walked = λ s. rw c.opening-clock.ensures.value (walked_at_first c.args.inst.now c.args.self.now s c.args.start c.args.first c.requires.used);
      awaits = λ s. rw c.opening-clock.ensures.value (awaits_at_first c.args.inst.now c.args.self.now s c.args.start c.args.first);
    }

pub returns-in-None : goal.returns-in-None
returns-in-None c = (
  (λ _. late_found c.args.inst.now c.args.self.now c.requires.single c.args.start c.args.first c.loop-steps.clock c.loop-steps.from c.loop-steps.to (sym c.in-None.ensures.value) (c.loop-steps.invariant.walked c.requires.single)),
  λ _. refl,
)

pub returns-in-None-next_place : goal.returns-in-None-next_place
returns-in-None-next_place c = (
  (λ h. absurd (true≢false (sym h))),
  λ l. absurd (no_way_late c.args.inst.now c.args.self.now c.requires.single c.args.start c.args.first c.loop-steps.clock c.loop-steps.from c.loop-steps.to c.in-Some.later c.loop-steps.steps (sym c.in-Some.ensures.value) c.in-None-next_place.ensures.none (c.loop-steps.invariant.awaits c.requires.single) l),
)

pub returns-then-next-start : goal.returns-then-next-start
returns-then-next-start c =
    let round : is_used c.args.self.now c.loop-steps.to c.args.start ≡ true = subst (λ j. is_used c.args.self.now c.loop-steps.to j ≡ true) c.if-next-start.true c.in-Some-next_place.ensures.used in (
      (λ h. absurd (true≢false (sym h))),
      λ l. absurd (round_is_not_late c.args.inst.now c.args.self.now c.requires.single c.args.start c.args.first c.loop-steps.clock c.loop-steps.from c.loop-steps.to c.in-Some.later c.loop-steps.steps (sym c.in-Some.ensures.value) (positive c.loop-steps.to c.loop-steps.invariant.to_low) round (c.loop-steps.invariant.awaits c.requires.single) l),
    )

pub loop-steps-preserved : goal.loop-steps-preserved
loop-steps-preserved c =
    record {
      from_within = (c.requires.single.arcs c.loop-steps.to c.in-Some-next_place.next c.in-Some-next_place.ensures.used).from;
      to_low = c.in-Some-next_place.ensures.low;
      to_high = c.in-Some-next_place.ensures.high;
      clock = c.in-Some.ensures.within.1;
      walked = λ s. walked_on c.args.inst.now c.args.self.now s c.args.start c.args.first c.loop-steps.clock c.loop-steps.from c.loop-steps.to c.in-Some-next_place.next c.in-Some.later (sym c.in-Some.ensures.value) c.in-Some-next_place.ensures.used c.if-next-start.false (c.loop-steps.invariant.walked s);
      awaits = λ s. awaits_on c.args.inst.now c.args.self.now s c.args.start c.args.first c.loop-steps.clock c.loop-steps.from c.loop-steps.to c.in-Some-next_place.next c.in-Some.later c.loop-steps.steps (sym c.in-Some.ensures.value) (positive c.loop-steps.to c.loop-steps.invariant.to_low) c.in-Some-next_place.ensures.used (c.loop-steps.invariant.awaits s);
    }

pub returns : goal.returns
returns c = (
  (λ h. absurd (true≢false (sym h))),
  λ l. absurd (too_long c.args.inst.now c.args.self.now c.requires.single c.args.start c.args.first c.loop-steps.clock c.loop-steps.from c.loop-steps.to c.loop-steps.steps (omega arith) (c.loop-steps.invariant.awaits c.requires.single) l),
)
