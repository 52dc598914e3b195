-- How much a tour can earn, how long it can travel, and how many calls it has.
use Rattle.std.proofs.Common.{◌≡◌, ℕ, ◌+◌, ◌*◌, ◌^◌, ◌≤◌, inl, inr, List, [], ◌∷◌, length, None, Some, option_and_then, IsSome, refl, sym, subst, arith, sum_by}
use Rattle.std.proofs.lemmas.List.Sums.{sum_by-cons}
use Rattle.std.specs.List.{AllByRecursion}
use Rattle.orienteering.specs.Instance.{Problem, site, calls, IsCall, end_place, travel, next_clock}
use Rattle.orienteering.specs.Limits.{IsInstance}
use Rattle.orienteering.specs.Tour.{clock_along, stops, IsFeasibleTour, travel_along, tour_profit, tour_time}
use Rattle.orienteering.proofs.Clocks.{next_some}
use Rattle.orienteering.proofs.Members.{IsMember, no_repeat_from_IsDistinct}
use Rattle.orienteering.proofs.ShortLengths.{site-within}
use Rattle.orienteering.proofs.UsedPaths.{few_calls}

pub record AreTourLimits (p : Problem) (tour : List ℕ) : Type 0 where
  pub few : length tour ≤ 300
  pub profit : tour_profit p tour ≤ 3 * 10 ^ 7
  pub time : tour_time p tour ≤ 10 ^ 8

-- a step that isn't late takes at least its travel, and ends before the closing
record Stepped (p : Problem) (c i j d : ℕ) : Type 0 where
  later : c + travel p i j ≤ d
  in_time : d ≤ (site p j).closing

stepped : (p : Problem) (c i j d : ℕ) → next_clock p c i j ≡ Some d → Stepped p c i j d
stepped p c i j d e =
    let step = next_some p c i j d e in
    record { later = omega (arith, step); in_time = omega (arith, step) }

-- the clock at the end is at least the clock at the beginning and the travel between
reaches_end : (p : Problem) (c i : ℕ) (js : List ℕ) → IsSome (clock_along p c i (stops p js)) →
    c + travel_along p i (stops p js) ≤ (site p (end_place p)).closing
reaches_end p c i [] h =
    elim (next_clock p c i (end_place p)) as (λ o. next_clock p c i (end_place p) ≡ o →
    IsSome (option_and_then (λ d. Some d) o) →
    c + travel_along p i (stops p []) ≤ (site p (end_place p)).closing) [
      | None ↦ λ e k. absurd (cc)
      | Some d ↦ λ e k. let s = stepped p c i (end_place p) d e in omega (arith, s.later, s.in_time)
    ] refl h
reaches_end p c i (j ∷ js) h =
    elim (next_clock p c i j) as (λ o. next_clock p c i j ≡ o →
    IsSome (option_and_then (λ d. clock_along p d j (stops p js)) o) →
    c + travel_along p i (stops p (j ∷ js)) ≤ (site p (end_place p)).closing) [
      | None ↦ λ e k. absurd (cc)
      | Some d ↦ λ e k. let s = stepped p c i j d e in omega (arith, s.later, s.in_time, reaches_end p d j js k)
    ] refl h

scores-le : (p : Problem) → IsInstance p → (tour : List ℕ) → sum_by (λ i. (site p i).score) tour ≤ length tour * 100000
scores-le p l [] = omega arith
scores-le p l (j ∷ js) =
    let place = site-within p j l in
    let here = place.score in
    omega (arith, sum_by-cons (λ i. (site p i).score) j js, scores-le p l js)

call_of : (p : Problem) (tour : List ℕ) (j : ℕ) → AllByRecursion (IsCall p) tour → IsMember j tour → IsCall p j
call_of p [] j a m = absurd m
call_of p (i ∷ is) j a m = elim m [ inl e ↦ subst (IsCall p) (sym e) a.0 | inr rest ↦ call_of p is j a.1 rest ]

pub tour_limits : (p : Problem) → IsInstance p → (tour : List ℕ) → IsFeasibleTour p tour → AreTourLimits p tour
tour_limits p l tour f =
    let most = l.few_calls in
    let short = few_calls (calls p) tour (no_repeat_from_IsDistinct tour f.distinct) (λ c m. call_of p tour c f.calls m) in
    let last = site-within p (end_place p) l in
    let closing = last.closing in
    record {
      few = omega arith;
      profit = (let s = scores-le p l tour in omega arith);
      time = (let t = reaches_end p (site p 0).opening 0 tour f.in_time in omega arith);
    }
