-- What a replay answers, by the number of undominated states.
use Rattle.std.proofs.Common.{◌≡◌, ℕ, suc, ◌*◌, ◌^◌, ◌<◌, ◌≤◌, true, cond, List, [], ◌∷◌, ◌++◌, length, ℤ, pos, ◌+ℤ◌, ◌-ℤ◌, Option, refl, ap, sym, subst, ◌∙◌, arith, lit≤}
use Rattle.std.specs.Prelude.{unsigned_abs, MatchOption}
use Rattle.std.proofs.Math.Nat.{mul-le-mul_left, mul-le-mul_right}
use Rattle.std.proofs.lemmas.Bool.{lt-ltb, le-ltb}
use Rattle.std.proofs.lemmas.Int.{ints}
use Rattle.orienteering.specs.Decision.{Branch, replay_step}
use Rattle.orienteering.specs.Decide.{region_rules}
use Rattle.orienteering.specs.Instance.{Problem, calls, travel, end_place}
use Rattle.orienteering.specs.Limits.{IsInstance}
use Rattle.orienteering.specs.Price.{IsFit, bound}
use Rattle.orienteering.specs.Region.{Region, is_forced}
use Rattle.orienteering.specs.Replay.{relaxation, Replay, too_many_labels, bounds}
use Rattle.orienteering.specs.Sigma.{sigma, undominated}
use Rattle.orienteering.specs.Walk.{Relaxation, IsRelaxedWalk, last_place, step_value, value_along, walk_value}
use Rattle.orienteering.specs.declared.CheckFail.{CheckFail}
use Rattle.orienteering.specs.declared.CheckFail.TheVariants.{TooManyLabels}
use Rattle.orienteering.specs.declared.Listed.{Listed}
use Rattle.orienteering.specs.declared.Price.{Price}
use Rattle.orienteering.specs.declared.Step.{Step}
use Rattle.orienteering.specs.declared.Step.TheVariants.{Refused, Child}
use Rattle.orienteering.proofs.ShortLengths.{lengths_are_short}
use Rattle.price_bound.specs.Magnitude.{IsWithin}
use Rattle.label_engine.specs.Greatest.{sigma_of, HasWalk}
use Rattle.label_engine.specs.declared.replay.Outcome.{Outcome}
use Rattle.label_engine.specs.declared.replay.Outcome.TheVariants.{NoWalk, Best}
use Rattle.label_engine.specs.declared.label.ReplayFail.{ReplayFail}
use Rattle.label_engine.specs.declared.label.ReplayFail.TheVariants as replays
use Rattle.label_engine.proofs.CutLimits.{small_step}
use Rattle.proof_check.specs.Judged.{Gives, refusal_of}
use Rattle.proof_check.specs.declared.judge.Judged.TheVariants.{Below}
use Rattle.std.specs.declared.result.Result.TheVariants.{Ok, Err}

module _ (p : Problem) (limit : ℕ) (points : List Listed) (i : ℕ) (b : Branch Region) (price : Price) (critical : List ℕ) where
  abbrev states : ℕ
  states = length (undominated p (relaxation b.region price critical))

  abbrev bound_of_cut : ℤ
  bound_of_cut = bound price (sigma p (relaxation b.region price critical)) b.region.fewest b.region.most

  abbrev step_of : Replay → Step (Branch Region) CheckFail
  step_of answer = elim answer [
    | too_many_labels ↦ Refused (TooManyLabels i)
    | bounds k ↦ Child (record {
      region = b.region;
      cuts = b.cuts ++ record { alpha = price.alpha; beta = price.beta; bound = k } ∷ [];
      under_cut = true;
    })
  ]

  pub replay_step-few : states ≤ limit → replay_step (region_rules p limit) points i b price critical ≡ step_of (bounds bound_of_cut)
  replay_step-few h = ap (λ t. step_of (cond t too_many_labels (bounds bound_of_cut))) (le-ltb limit states h)

  pub replay_step-many : limit < states → replay_step (region_rules p limit) points i b price critical ≡ Refused (TooManyLabels i)
  replay_step-many h = ap (λ t. step_of (cond t too_many_labels (bounds bound_of_cut))) (lt-ltb limit states h)

  pub gives_bound : (value : Option ℤ) (k : ℤ) → value ≡ sigma p (relaxation b.region price critical) →
      k ≡ bound price value b.region.fewest b.region.most → states ≤ limit →
      Gives b (Ok (Below (record { alpha = price.alpha; beta = price.beta; bound = k }))) (replay_step (region_rules p limit) points i b price critical)
  gives_bound value k is bounded few =
      replay_step-few few
      ∙ ap (λ (x : ℤ). step_of (bounds x)) (sym (bounded ∙ ap (λ v. bound price v b.region.fewest b.region.most) is))

  pub gives_refusal : (fail : ReplayFail) → (fail ≡ replays.TooManyLabels → limit < states) →
      Gives b (Err (refusal_of i fail)) (replay_step (region_rules p limit) points i b price critical)
  gives_refusal replays.TooManyLabels many = replay_step-many (many refl)
  gives_refusal replays.Memory many = tt
