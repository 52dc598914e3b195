-- Shares and the room that they leave.
use Rattle.std.proofs.Common.{◌≡◌, ℕ, zero, suc, ◌+◌, ◌-◌, ◌*◌, ◌<◌, ◌≤◌, true, List, [], ◌∷◌, ◌++◌, length, get_or, take, replicate, ℤ, pos, ◌+ℤ◌, ◌*ℤ◌, ap, ◌∙◌, arith, if◌then◌else◌}
use Rattle.std.proofs.lemmas.Int.{ints, unsigned_abs-mul}
use Rattle.std.proofs.lemmas.List.{take_more}
use Rattle.std.proofs.lemmas.List.Sums.{sum_by_push}
use Rattle.std.proofs.lemmas.List.Quantifiers.{all_pairs_push}
use Rattle.std.proofs.Math.Nat.{mul-le-mul_left}
use Rattle.orienteering.specs.Instance.{Problem}
use Rattle.orienteering.specs.Price.{weighted}
use Rattle.orienteering.specs.Region.{Region}
use Rattle.orienteering.specs.declared.Point.{Point}
use Rattle.orienteering.specs.declared.Price.{Price}
use Rattle.orienteering.proofs.Lists.{AllByRecursion-push, AllByRecursion-weaker}
use Rattle.price_bound.specs.Magnitude.{IsWithin}
use Rattle.pool_cols.specs.Pool.{Column}
use Rattle.dual_master.specs.Sigma.{is_open_tour}
use Rattle.dual_master.specs.Shares.{Share, IsBalanced, AreShares, whole_tour, column, visits, worth_of}
use Rattle.dual_master.proofs.Lists.{AllByRecursion-at}

pub granted : (p : Problem) (r : Region) (pool : List Column) (place : ℕ) (room : List ℕ) (left : ℕ) (shares : List Share) (tour : List ℕ)
    (point : Point) (parts : ℕ) (less : List ℕ) → IsBalanced p r pool place room left shares → column pool place ≡ (tour, point) →
    place < length pool → is_open_tour p r tour ≡ true → parts ≤ left → length less ≡ length room →
    ((call : ℕ) → get_or less call 0 + (if visits call tour then parts else 0) ≤ get_or room call 0) →
    IsBalanced p r pool (place + 1) less (left - parts) (shares ++ (place, parts) ∷ [])
granted p r pool place room left shares tour point parts less b there within opened fits size rooms =
    record {
      size = size ∙ b.size;
      rising = all_pairs_push (λ s t. s.0 < t.0) shares (place, parts) b.rising (λ k d h. AllByRecursion-at (λ s. s.0 < place) shares k d b.earlier h);
      earlier = AllByRecursion-push (λ s. s.0 < place + 1) shares (place, parts) (AllByRecursion-weaker (λ s. s.0 < place) (λ s. s.0 < place + 1) (λ s h. omega arith) shares b.earlier) (omega arith);
      places = AllByRecursion-push (λ s. s.0 < length pool) shares (place, parts) b.places within;
      open_tours = AllByRecursion-push (λ s. is_open_tour p r (column pool s.0).0 ≡ true) shares (place, parts) b.open_tours (ap (λ c. is_open_tour p r c.0) there ∙ opened);
      each_call = λ call.
          let more = sum_by_push (λ s. if visits call (column pool s.0).0 then s.1 else 0) shares (place, parts) in
          let here : (if visits call (column pool place).0 then parts else 0) ≡ (if visits call tour then parts else 0) = ap (λ c. if visits call c.0 then parts else 0) there in
          omega (arith, more, here, rooms call, b.each_call call);
      all_tours = (let more = sum_by_push (λ s. s.1) shares (place, parts) in let all = b.all_tours in omega (arith, more, all, fits));
    }

pub nothing_granted : (p : Problem) (r : Region) (pool : List Column) (room : List ℕ) → length room ≡ r.calls + 1 →
    ((call : ℕ) → get_or room call 0 ≤ whole_tour) → IsBalanced p r pool 0 room (r.most * whole_tour) []
nothing_granted p r pool room size rooms =
    record {
      size = size;
      rising = λ i j d below within. absurd (omega arith);
      earlier = tt;
      places = tt;
      open_tours = tt;
      each_call = λ call. omega (arith, rooms call);
      all_tours = omega arith;
    }

pub balanced_shares : (p : Problem) (r : Region) (pool : List Column) (before : ℕ) (room : List ℕ) (left : ℕ) (shares : List Share) →
    IsBalanced p r pool before room left shares → AreShares p r pool shares
balanced_shares p r pool before room left shares b =
    record {
      rising = b.rising;
      places = b.places;
      open_tours = b.open_tours;
      each_call = λ call. omega (arith, b.each_call call);
      all_tours = (let all = b.all_tours in omega (arith, all));
    }

worth_of-push : (price : Price) (pool : List Column) (shares : List Share) (s : Share) →
    worth_of price pool (shares ++ s ∷ []) ≡ worth_of price pool shares +ℤ (pos s.1 *ℤ weighted price (column pool s.0).1)
worth_of-push price pool [] s = omega (arith, ints)
worth_of-push price pool (t ∷ ts) s = let rest = worth_of-push price pool ts s in omega (arith, ints)

pub worth_of-more : (price : Price) (pool : List Column) (shares : List Share) (i : ℕ) (d : Share) → i < length shares →
    worth_of price pool (take (i + 1) shares) ≡ worth_of price pool (take i shares) +ℤ (pos (get_or shares i d).1 *ℤ weighted price (column pool (get_or shares i d).0).1)
worth_of-more price pool shares i d h = ap (worth_of price pool) (take_more shares i d h) ∙ worth_of-push price pool (take i shares) (get_or shares i d)

pub times-within : (parts k : ℕ) (w : ℤ) → IsWithin k w → IsWithin (parts * k) (pos parts *ℤ w)
times-within parts k w h =
    let product = unsigned_abs-mul (pos parts) w in
    let grows = mul-le-mul_left parts h in
    omega (arith, product, grows)

pub filled_room : (n value k : ℕ) → get_or (replicate n value) k 0 ≤ value
filled_room zero value k = omega arith
filled_room (suc n) value zero = omega arith
filled_room (suc n) value (suc k) = filled_room n value k
