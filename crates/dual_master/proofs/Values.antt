-- The greatest value of an open tour, found one tour after another, and how great it can be.
use Rattle.std.proofs.Common.{◌≡◌, ℕ, zero, suc, ◌+◌, ◌*◌, ◌^◌, ◌<◌, ◌≤◌, Bool, true, false, true≢false, cond, List, [], ◌∷◌, ◌++◌, length, get_or, slice_get, None, Some, Option, map, ℤ, pos, negsuc, ◌≤ℤ◌, refl, ap, sym, subst, ◌∙◌, arith}
use Rattle.std.specs.Prelude.{MatchOption, ◌-ℤ◌, if◌then◌else◌}
use Rattle.std.specs.Int.{int_max}
use Rattle.std.proofs.lemmas.Int.{ints, clamps, by_lt_z}
use Rattle.std.proofs.lemmas.Nat.{mul-le}
use Rattle.std.proofs.lemmas.List.Elements.{Contains-append_left, Contains-push}
use Rattle.std.proofs.Math.IntN.{pos-*ℤ-negsuc}
use Rattle.std.specs.List.{AllByRecursion}
use Rattle.orienteering.specs.Instance.{Problem, calls, IsCall}
use Rattle.orienteering.specs.Limits.{IsInstance}
use Rattle.orienteering.specs.PlanCheck.{tour_point}
use Rattle.orienteering.specs.Price.{tour_worth, weighted, prices_of, IsFit, bound, tours_bound}
use Rattle.orienteering.specs.Region.{Region, is_forced}
use Rattle.orienteering.specs.Tour.{IsFeasibleTour, tour_profit, tour_time}
use Rattle.orienteering.specs.declared.Point.{Point}
use Rattle.orienteering.specs.declared.Price.{Price}
use Rattle.orienteering.proofs.Lists.{AllByRecursion-push, AllByRecursion-weaker, AllByRecursion-contains}
use Rattle.price_bound.specs.Magnitude.{IsWithin}
use Rattle.pool_cols.specs.Pool.{Column, IsColumnOf, IsPoolOf}
use Rattle.dual_master.specs.Sigma.{IsPoolSigma, is_open_tour, open_value, better_of}
use Rattle.dual_master.specs.Shares.{column, no_column}
use Rattle.dual_master.proofs.Limits.{AreTourLimits, tour_limits}
use Rattle.dual_master.proofs.Lists.{AllByRecursion-at, get_or-map-within}
use Rattle.dual_master.proofs.Tables.{prices_of-within, sum_of_prices-within, rising-few}

module _ (p : Problem) (r : Region) (price : Price) where
  shut_more : (cs : List Column) (c : Column) (best : Option ℤ) → is_open_tour p r c.0 ≡ false →
      IsPoolSigma p r price cs best → IsPoolSigma p r price (cs ++ c ∷ []) best
  shut_more cs c None shut h = AllByRecursion-push (λ c. is_open_tour p r c.0 ≡ false) cs c h shut
  shut_more cs c (Some b) shut h =
      record {
        reached = (h.reached.0, Contains-append_left cs (c ∷ []) h.reached.0 h.reached.1, h.reached.2, h.reached.3);
        greatest = AllByRecursion-push (λ c. is_open_tour p r c.0 ≡ true → tour_worth p price c.0 ≤ℤ b) cs c h.greatest (λ o. absurd (true≢false (sym o ∙ shut)));
      }

  open_more : (cs : List Column) (c : Column) (best : Option ℤ) → is_open_tour p r c.0 ≡ true →
      IsPoolSigma p r price cs best → IsPoolSigma p r price (cs ++ c ∷ []) (better_of best (Some (tour_worth p price c.0)))
  open_more cs c None o h =
      record {
        reached = (c, Contains-push cs c, o, refl);
        greatest =
            AllByRecursion-push (λ d. is_open_tour p r d.0 ≡ true → tour_worth p price d.0 ≤ℤ tour_worth p price c.0) cs c
            (AllByRecursion-weaker _ _ (λ d shut o2. absurd (true≢false (sym o2 ∙ shut))) cs h)
            (λ _. omega (arith, ints));
      }
  open_more cs c (Some b) o h =
      let value = tour_worth p price c.0 in
      let best = int_max b value in
      let above : b ≤ℤ best = omega (arith, ints, clamps) in
      let from : value ≤ℤ best = omega (arith, ints, clamps) in
      record {
        reached =
            by_lt_z b value
            (λ less. (c, Contains-push cs c, o, (let e : value ≡ best = omega (arith, ints, clamps) in e)))
            (λ more. (h.reached.0, Contains-append_left cs (c ∷ []) h.reached.0 h.reached.1, h.reached.2, h.reached.3 ∙ (let e : b ≡ best = omega (arith, ints, clamps) in e)));
        greatest =
            AllByRecursion-push (λ d. is_open_tour p r d.0 ≡ true → tour_worth p price d.0 ≤ℤ best) cs c
            (AllByRecursion-weaker (λ d. is_open_tour p r d.0 ≡ true → tour_worth p price d.0 ≤ℤ b) (λ d. is_open_tour p r d.0 ≡ true → tour_worth p price d.0 ≤ℤ best) (λ d f o2. let g = f o2 in omega (arith, ints)) cs h.greatest)
            (λ _. from);
      }

  -- one more tour
  pub sigma_more : (cs : List Column) (c : Column) (best : Option ℤ) → IsPoolSigma p r price cs best →
      IsPoolSigma p r price (cs ++ c ∷ []) (better_of best (open_value p r price c))
  sigma_more cs c best h =
      elim (is_open_tour p r c.0) as (λ b. is_open_tour p r c.0 ≡ b → IsPoolSigma p r price (cs ++ c ∷ []) (better_of best (cond b (Some (tour_worth p price c.0)) None))) [
        | true ↦ λ o. open_more cs c best o h
        | false ↦ λ s. shut_more cs c best s h
      ] refl

  -- there is one greatest value
  pub sigma_once : (pool : List Column) (s t : Option ℤ) → IsPoolSigma p r price pool s → IsPoolSigma p r price pool t → s ≡ t
  sigma_once pool None None a b = refl
  sigma_once pool None (Some t) a b = absurd (true≢false (sym b.reached.2 ∙ AllByRecursion-contains (λ c. is_open_tour p r c.0 ≡ false) pool b.reached.0 a b.reached.1))
  sigma_once pool (Some s) None a b = absurd (true≢false (sym a.reached.2 ∙ AllByRecursion-contains (λ c. is_open_tour p r c.0 ≡ false) pool a.reached.0 b a.reached.1))
  sigma_once pool (Some s) (Some t) a b =
      let up = AllByRecursion-contains (λ c. is_open_tour p r c.0 ≡ true → tour_worth p price c.0 ≤ℤ t) pool a.reached.0 b.greatest a.reached.1 a.reached.2 in
      let down = AllByRecursion-contains (λ c. is_open_tour p r c.0 ≡ true → tour_worth p price c.0 ≤ℤ s) pool b.reached.0 a.greatest b.reached.1 b.reached.2 in
      let here = a.reached.3 in
      let there = b.reached.3 in
      let same : s ≡ t = omega (arith, ints) in
      ap Some same

weighted-within : (price : Price) (p : Problem) (tour : List ℕ) → price.alpha ≤ 10 ^ 9 → price.beta ≤ 10 ^ 9 → AreTourLimits p tour →
    IsWithin (2 * 10 ^ 17) (weighted price (tour_point p tour))
weighted-within price p tour a b l =
    let gain : price.alpha * tour_profit p tour ≤ 10 ^ 9 * (3 * 10 ^ 7) = mul-le _ _ _ _ a l.profit in
    let cost : price.beta * tour_time p tour ≤ 10 ^ 9 * 10 ^ 8 = mul-le _ _ _ _ b l.time in
    omega (arith, ints)

tour_worth-within : (p : Problem) (r : Region) (price : Price) → IsInstance p → IsFit (calls p) (is_forced r) price → (tour : List ℕ) →
    IsFeasibleTour p tour → IsWithin (10 ^ 20) (tour_worth p price tour)
tour_worth-within p r price l fit tour f =
    let limits = tour_limits p l tour f in
    let few = limits.few in
    let worth = weighted-within price p tour fit.alpha fit.beta limits in
    let prices = prices_of-within (is_forced r) price.pi tour fit.prices in
    omega (arith, ints)

pub sigma-within : (p : Problem) (r : Region) (price : Price) → IsInstance p → IsFit (calls p) (is_forced r) price → (pool : List Column) →
    IsPoolOf p pool → (sigma : Option ℤ) → IsPoolSigma p r price pool sigma →
    MatchOption sigma (Unit {0}) (IsWithin (10 ^ 20))
sigma-within p r price l fit pool of None h = tt
sigma-within p r price l fit pool of (Some s) h =
    let c = AllByRecursion-contains (IsColumnOf p) pool h.reached.0 of h.reached.1 in
    subst (IsWithin (10 ^ 20)) h.reached.3 (tour_worth-within p r price l fit h.reached.0.0 c.feasible)

-- the column that a pool gave
column_given : (pool : List Column) (place : ℕ) (c : Column) → slice_get pool place ≡ Some c → column pool place ≡ c
column_given [] place c h = absurd (cc)
column_given (d ∷ ds) zero c h = cc
column_given (d ∷ ds) (suc place) c h = column_given ds place c h

given_within : (pool : List Column) (place : ℕ) (c : Column) → slice_get pool place ≡ Some c → place < length pool
given_within [] place c h = absurd (cc)
given_within (d ∷ ds) zero c h = omega arith
given_within (d ∷ ds) (suc place) c h = let rest = given_within ds place c h in omega arith

-- what is known of a tour that a pool of the instance gave
pub record IsGiven (p : Problem) (pool : List Column) (place : ℕ) (tour : List ℕ) (point : Point) : Type 0 where
  pub there : column pool place ≡ (tour, point)
  pub within : place < length pool
  pub point_is : point ≡ tour_point p tour
  pub feasible : IsFeasibleTour p tour
  pub limits : AreTourLimits p tour

pub given : (p : Problem) → IsInstance p → (pool : List Column) → IsPoolOf p pool → (place : ℕ) (tour : List ℕ) (point : Point) →
    slice_get pool place ≡ Some (tour, point) → IsGiven p pool place tour point
given p l pool of place tour point h =
    let there = column_given pool place (tour, point) h in
    let within = given_within pool place (tour, point) h in
    let c : IsColumnOf p (tour, point) = subst (IsColumnOf p) there (AllByRecursion-at (IsColumnOf p) pool place no_column of within) in
    record { there = there; within = within; point_is = c.point; feasible = c.feasible; limits = tour_limits p l tour c.feasible }

-- the flag of a tour that the pool gave
pub open_flag : (p : Problem) (r : Region) (pool : List Column) (place : ℕ) (tour : List ℕ) (point : Point) (d : Bool) → column pool place ≡ (tour, point) →
    place < length pool → get_or (map (λ c. is_open_tour p r c.0) pool) place d ≡ true → is_open_tour p r tour ≡ true
open_flag p r pool place tour point d there within flag =
    sym (ap (λ c. is_open_tour p r c.0) there) ∙ sym (get_or-map-within (λ c. is_open_tour p r c.0) pool place no_column d within) ∙ flag

pub open_given : (p : Problem) (r : Region) (price : Price) (pool : List Column) (place : ℕ) (tour : List ℕ) (point : Point) (d : Bool) →
    IsGiven p pool place tour point → get_or (map (λ c. is_open_tour p r c.0) pool) place d ≡ true →
    Some (weighted price point -ℤ prices_of price.pi tour) ≡ open_value p r price (column pool place)
open_given p r price pool place tour point d g flag =
    let opened = open_flag p r pool place tour point d g.there g.within flag in
    let value : (weighted price point -ℤ prices_of price.pi tour) ≡ tour_worth p price tour = ap (λ v. weighted price v -ℤ prices_of price.pi tour) g.point_is in
    ap Some value
    ∙ sym (ap (λ b. if b then Some (tour_worth p price tour) else None) opened)
    ∙ sym (ap (open_value p r price) g.there)

-- the calls of a tour stand within a table of all calls
pub calls_within : (p : Problem) (tour : List ℕ) (size : ℕ) → size ≡ calls p + 1 → AllByRecursion (IsCall p) tour → AllByRecursion (λ call. call < size) tour
calls_within p tour size e a = AllByRecursion-weaker (IsCall p) (λ call. call < size) (λ j is. omega (arith, is.1, e)) tour a

-- a bound over a pool is small
pub bound-within : (n : ℕ) (r : Region) (price : Price) (sigma : Option ℤ) → n ≤ 300 → r.fewest ≤ 32 → r.most ≤ 32 →
    IsFit n (is_forced r) price → MatchOption sigma (Unit {0}) (IsWithin (10 ^ 20)) →
    IsWithin (10 ^ 23) (bound price sigma r.fewest r.most)
bound-within n r price sigma few low high fit s =
    let entries = rising-few n 0 price.pi (omega arith) fit.calls in
    let sum = sum_of_prices-within (is_forced r) price.pi fit.prices in
    let tours = tours_bound-within sigma r.fewest r.most low high s in
    omega (arith, ints)
  where
    tours_bound-within : (sigma : Option ℤ) (a b : ℕ) → a ≤ 32 → b ≤ 32 → MatchOption sigma (Unit {0}) (IsWithin (10 ^ 20)) → IsWithin (32 * 10 ^ 20) (tours_bound sigma a b)
    tours_bound-within None a b h k s = omega (arith, ints)
    tours_bound-within (Some (pos v)) a b h k s =
        let most : b * v ≤ 32 * 10 ^ 20 = mul-le b v 32 (10 ^ 20) k s in omega (arith, ints)
    tours_bound-within (Some (negsuc v)) a b h k s =
        let most : a * suc v ≤ 32 * 10 ^ 20 = mul-le a (suc v) 32 (10 ^ 20) h s in
        let same = pos-*ℤ-negsuc a v in
        omega (arith, ints)

pub wider : (sigma : Option ℤ) (a b : ℕ) → a ≤ b → MatchOption sigma (Unit {0}) (IsWithin a) → MatchOption sigma (Unit {0}) (IsWithin b)
wider None a b h s = tt
wider (Some v) a b h s = omega arith
