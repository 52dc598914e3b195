-- The best arc among some, and one arc more.
use Rattle.std.proofs.Common.{◌≡◌, ℕ, ◌<◌, ◌≤◌, Bool, true, false, true≢false, not, ◌||◌, ◌&&◌, ◌+◌, List, [], ◌∷◌, ◌++◌, Option, None, Some, refl, sym, ap, subst, ◌∙◌, arith}
use Rattle.std.proofs.lemmas.Bool.{false_from_ne_true}
use Rattle.std.specs.Int.{abs_diff}
use Rattle.orienteering.specs.Region.{Region, is_undecided}
use Rattle.branch_pick.specs.declared.ArcShare.{ArcShare}
use Rattle.branch_pick.specs.declared.Candidate.{Candidate}
use Rattle.branch_pick.specs.Choice.{is_of, distance, ComesFirst, IsChosen}
use Rattle.orienteering.proofs.ArcSets.{arc_tested}
use Rattle.branch_pick.specs.Candidates.{is_listed, is_unlisted, IsNoLater, StaysFirst, GivesWay, IsNear, IsFirstOf, IsBest, IsBestListed, IsBestUnlisted}
use Rattle.branch_pick.proofs.Shares.{own_arc, same_from, same_to, listed_more, distance_kept, distance_new, distance_none}

-- ---- the order

pub comes_first_chain : (d i j e k l f m n : ℕ) → ComesFirst d i j e k l → ComesFirst e k l f m n → ComesFirst d i j f m n
comes_first_chain d i j e k l f m n a b = record {
  nearer = omega (arith, a.nearer, b.nearer);
  leaves_earlier = λ same. omega (arith, a.leaves_earlier (omega (arith, a.nearer, b.nearer, same)), b.leaves_earlier (omega (arith, a.nearer, b.nearer, same)));
  enters_earlier = λ same left.
      let de : d ≡ e = omega (arith, a.nearer, b.nearer, same) in
      let ef : e ≡ f = omega (arith, a.nearer, b.nearer, same) in
      let ik : i ≡ k = omega (arith, a.leaves_earlier de, b.leaves_earlier ef, left) in
      let km : k ≡ m = omega (arith, a.leaves_earlier de, b.leaves_earlier ef, left) in
      omega (arith, a.enters_earlier de ik, b.enters_earlier ef km);
}

-- a nearer arc comes first
pub nearer_first : (d i j e k l : ℕ) → d < e → ComesFirst d i j e k l
nearer_first d i j e k l less = record {
  nearer = omega arith;
  leaves_earlier = λ same. absurd (omega (arith, less, same));
  enters_earlier = λ same _. absurd (omega (arith, less, same));
}

pub same_first : (d i j : ℕ) → ComesFirst d i j d i j
same_first d i j = record { nearer = omega arith; leaves_earlier = λ _. omega arith; enters_earlier = λ _ _. omega arith }

-- ---- tests

both_new : (a b : Bool) → (a && not b) ≡ true → (a ≡ true) × (b ≡ false)
both_new true true h = absurd (true≢false (sym h))
both_new true false h = (refl, refl)
both_new false b h = absurd (true≢false (sym h))

both_true : (a b : Bool) → a ≡ true → not b ≡ true → (a && not b) ≡ true
both_true a b first second = ap (λ x. x && not b) first ∙ second

not_new : (a b : Bool) → (a && not b) ≡ false → (a ≡ true) × (b ≡ false) → ⊥
not_new a b old new = true≢false (sym (both_true a b new.0 (ap not new.1)) ∙ old)

not_false : (b : Bool) → not b ≡ false → b ≡ true
not_false true h = refl
not_false false h = absurd (true≢false h)

not_true : (b : Bool) → not b ≡ true → b ≡ false
not_true true h = absurd (true≢false (sym h))
not_true false h = refl

by_listed : {P : Type 0} (b : Bool) → (b ≡ true → P) → (b ≡ false → P) → P
by_listed true there other = there refl
by_listed false there other = other refl

not_below : (a b : ℕ) → (a < b → ⊥) → b ≤ a
not_below a b above = omega (arith, above)

-- an undecided arc leaves a place
pub undecided_from : (r : Region) (i j : ℕ) → is_undecided r i j ≡ true → i < r.calls + 2
undecided_from r i j undecided =
    let low = (arc_tested r.calls i j (first_of _ _ (first_of _ _ undecided))).from in
    omega (arith, low)
  where
    first_of : (a b : Bool) → (a && b) ≡ true → a ≡ true
    first_of true b h = refl
    first_of false b h = h

-- ---- one entry more

module _ (r : Region) (earlier : List ArcShare) (share : ArcShare) where
  abbrev more : List ArcShare
  more = earlier ++ share ∷ []

  -- how far the entry is from half a tour
  abbrev own : ℕ
  own = abs_diff share.parts 500000

  -- the arc of the entry is new
  abbrev IsNew : Type 0
  IsNew = (is_undecided r share.from share.to ≡ true) × (is_listed earlier share.from share.to ≡ false)

  still_listed : (i j : ℕ) → is_listed earlier i j ≡ true → is_listed more i j ≡ true
  still_listed i j listed = listed_more earlier share i j ∙ ap (λ b. b || is_of i j share) listed

  entry_listed : is_listed more share.from share.to ≡ true
  entry_listed = listed_more earlier share share.from share.to ∙ by_own (is_listed earlier share.from share.to) _ (own_arc share)
    where
      by_own : (a b : Bool) → b ≡ true → (a || b) ≡ true
      by_own true b e = refl
      by_own false b e = e

  -- what was listed before or is the entry's arc
  from_more : (i j : ℕ) → is_listed more i j ≡ true → is_listed earlier i j ≡ false → is_of i j share ≡ true
  from_more i j listed before = sym (listed_more earlier share i j ∙ ap (λ b. b || is_of i j share) before) ∙ listed

  module _ (d i j : ℕ) (old : (k l : ℕ) → is_undecided r k l ≡ true → is_listed earlier k l ≡ true → ComesFirst d i j (distance earlier k l) k l) (new : IsNew → ComesFirst d i j own share.from share.to) where
    -- what comes before every arc that was listed, and before the entry where it is new, comes before every listed arc
    pub first_of_more : (k l : ℕ) → is_undecided r k l ≡ true → is_listed more k l ≡ true → ComesFirst d i j (distance more k l) k l
    first_of_more k l undecided listed =
        elim (is_listed earlier k l) as (λ b. is_listed earlier k l ≡ b → ComesFirst d i j (distance more k l) k l) [
          | true ↦ λ before. subst (λ e. ComesFirst d i j e k l) (sym (distance_kept earlier (share ∷ []) k l before)) (old k l undecided before)
          | false ↦ λ before. at_entry before (from_more k l listed before)
        ] refl
      where
        at_entry : is_listed earlier k l ≡ false → is_of k l share ≡ true → ComesFirst d i j (distance more k l) k l
        at_entry before is_own =
            let from : share.from ≡ k = same_from k l share is_own in
            let to : share.to ≡ l = same_to k l share is_own in
            let undecided_there : is_undecided r share.from share.to ≡ true = ap (λ x. is_undecided r x share.to) from ∙ ap (λ y. is_undecided r k y) to ∙ undecided in
            let unlisted_there : is_listed earlier share.from share.to ≡ false = ap (λ x. is_listed earlier x share.to) from ∙ ap (λ y. is_listed earlier k y) to ∙ before in
            let first : ComesFirst d i j own share.from share.to = new (undecided_there, unlisted_there) in
            subst (λ e. ComesFirst d i j e k l) (sym (distance_new earlier share k l before is_own)) (subst (λ y. ComesFirst d i j own k y) to (subst (λ x. ComesFirst d i j own x share.to) from first))

  -- the candidate of the entry
  abbrev entry : Candidate
  entry = record { from = share.from; to = share.to; distance = own }

  kept_where : (best : Candidate) → (IsNew → IsNoLater best entry) → IsFirstOf (is_listed earlier) r earlier best → IsFirstOf (is_listed more) r more best
  kept_where best new h = record {
    undecided = h.undecided;
    is_among = still_listed best.from best.to h.is_among;
    distance_is = h.distance_is ∙ sym (distance_kept earlier (share ∷ []) best.from best.to h.is_among);
    first = first_of_more best.distance best.from best.to h.first new;
  }

  -- the best so far stays where it comes before the entry's arc
  pub entry_behind : (best : Option Candidate) → StaysFirst best entry → IsBestListed r earlier best → IsBestListed r more best
  entry_behind None stays h = absurd stays
  entry_behind (Some best) stays h = kept_where best (λ _. stays) h

  -- the best so far stays where the entry's arc isn't new
  pub entry_passed : (best : Option Candidate) → is_unlisted r earlier share.from share.to ≡ false → IsBestListed r earlier best → IsBestListed r more best
  entry_passed None old h = λ k l undecided. false_from_ne_true _ (λ listed.
      let is_own : is_of k l share ≡ true = from_more k l listed (h k l undecided) in
      let from : share.from ≡ k = same_from k l share is_own in
      let to : share.to ≡ l = same_to k l share is_own in
      let undecided_there : is_undecided r share.from share.to ≡ true = ap (λ x. is_undecided r x share.to) from ∙ ap (λ y. is_undecided r k y) to ∙ undecided in
      not_new _ _ old (undecided_there, h share.from share.to undecided_there))
  entry_passed (Some best) old h = kept_where best (λ new. absurd (not_new _ _ old new)) h

  first_of_old : (best : Option Candidate) → GivesWay best entry → IsBestListed r earlier best → (k l : ℕ) → is_undecided r k l ≡ true → is_listed earlier k l ≡ true → ComesFirst own share.from share.to (distance earlier k l) k l
  first_of_old None gives h k l undecided listed = absurd (true≢false (sym listed ∙ h k l undecided))
  first_of_old (Some best) gives h k l undecided listed =
      comes_first_chain own share.from share.to best.distance best.from best.to (distance earlier k l) k l gives (h.first k l undecided listed)

  -- the entry's arc takes the place of the best so far where it is new and comes before it
  pub entry_taken : (best : Option Candidate) → is_unlisted r earlier share.from share.to ≡ true → GivesWay best entry → IsBestListed r earlier best → IsBestListed r more (Some entry)
  entry_taken best new gives h =
      let is_new : IsNew = both_new _ _ new in
      record {
        undecided = is_new.0;
        is_among = entry_listed;
        distance_is = sym (distance_new earlier share share.from share.to is_new.1 (own_arc share));
        first = first_of_more own share.from share.to (first_of_old best gives h) (λ _. same_first own share.from share.to);
      }

-- ---- all undecided arcs

module _ (r : Region) (shares : List ArcShare) where
  -- a best that is nearer than half a tour comes before the arcs without an entry
  pub near_is_best : (listed : Option Candidate) → IsNear listed → IsBestListed r shares listed → IsBest r shares listed
  near_is_best None near h = absurd near
  near_is_best (Some c) near h = record {
    undecided = h.undecided;
    is_among = refl;
    distance_is = h.distance_is;
    first = λ k l undecided _. by_listed (is_listed shares k l) (h.first k l undecided) (λ unlisted. nearer_first c.distance c.from c.to (distance shares k l) k l (omega (arith, near, distance_none shares k l unlisted)));
  }

  -- the arcs that have an entry are all where no undecided arc has none
  pub listed_is_best : (listed : Option Candidate) → IsBestUnlisted r shares None → IsBestListed r shares listed → IsBest r shares listed
  listed_is_best None none h = λ k l undecided. absurd (true≢false (sym (not_false _ (none k l undecided)) ∙ h k l undecided))
  listed_is_best (Some c) none h = record {
    undecided = h.undecided;
    is_among = refl;
    distance_is = h.distance_is;
    first = λ k l undecided _. h.first k l undecided (not_false _ (none k l undecided));
  }

  -- a best that comes before the first arc without an entry comes before all of these
  pub listed_stays_best : (listed : Option Candidate) (unlisted : Candidate) → StaysFirst listed unlisted → IsBestUnlisted r shares (Some unlisted) → IsBestListed r shares listed → IsBest r shares listed
  listed_stays_best None unlisted stays u h = absurd stays
  listed_stays_best (Some c) unlisted stays u h = record {
    undecided = h.undecided;
    is_among = refl;
    distance_is = h.distance_is;
    first = λ k l undecided _. by_listed (is_listed shares k l) (h.first k l undecided) (λ other.
        comes_first_chain c.distance c.from c.to unlisted.distance unlisted.from unlisted.to (distance shares k l) k l stays (u.first k l undecided (ap not other)));
  }

  first_of_listed : (listed : Option Candidate) (unlisted : Candidate) → GivesWay listed unlisted → IsBestListed r shares listed → (k l : ℕ) → is_undecided r k l ≡ true → is_listed shares k l ≡ true → ComesFirst unlisted.distance unlisted.from unlisted.to (distance shares k l) k l
  first_of_listed None unlisted gives h k l undecided listed = absurd (true≢false (sym listed ∙ h k l undecided))
  first_of_listed (Some c) unlisted gives h k l undecided listed =
      comes_first_chain unlisted.distance unlisted.from unlisted.to c.distance c.from c.to (distance shares k l) k l gives (h.first k l undecided listed)

  -- the first arc without an entry is best where it comes before those that have one
  pub unlisted_is_best : (listed : Option Candidate) (unlisted : Candidate) → GivesWay listed unlisted → IsBestUnlisted r shares (Some unlisted) → IsBestListed r shares listed → IsBest r shares (Some unlisted)
  unlisted_is_best listed unlisted gives u h = record {
    undecided = u.undecided;
    is_among = refl;
    distance_is = u.distance_is;
    first = λ k l undecided _. by_listed (is_listed shares k l) (first_of_listed listed unlisted gives h k l undecided) (λ other. u.first k l undecided (ap not other));
  }

  -- where there is no best arc, none is undecided
  pub none_undecided : IsBest r shares None → (i j : ℕ) → is_undecided r i j ≡ false
  none_undecided none i j = false_from_ne_true _ (λ undecided. true≢false (none i j undecided))

  -- the best arc is the one that is chosen
  pub best_is_chosen : (c : Candidate) → IsBest r shares (Some c) → IsChosen r shares c.from c.to
  best_is_chosen c h = record {
    undecided = h.undecided;
    first = λ k l undecided. subst (λ d. ComesFirst d c.from c.to (distance shares k l) k l) h.distance_is (h.first k l undecided refl);
  }

  -- the first of the arcs without an entry, in the order of the places that they leave and enter
  pub first_unlisted : (from to : ℕ) → is_unlisted r shares from to ≡ true → ((k l : ℕ) → k < from → is_unlisted r shares k l ≡ false) → ((l : ℕ) → l < to → is_unlisted r shares from l ≡ false) → IsBestUnlisted r shares (Some (record { from = from; to = to; distance = 500000 }))
  first_unlisted from to there earlier_from earlier_to =
      let new = both_new _ _ there in
      record {
        undecided = new.0;
        is_among = ap not new.1;
        distance_is = sym (distance_none shares from to new.1);
        first = λ k l undecided unlisted.
            let is_new : is_unlisted r shares k l ≡ true = both_true _ _ undecided unlisted in
            record {
              nearer = omega (arith, distance_none shares k l (not_true _ unlisted));
              leaves_earlier = λ _. not_below k from (λ below. true≢false (sym is_new ∙ earlier_from k l below));
              enters_earlier = λ _ same. not_below l to (λ below. true≢false (sym is_new ∙ ap (λ x. is_unlisted r shares x l) (sym same) ∙ earlier_to l below));
            };
      }

  -- none of the arcs has no entry
  pub none_unlisted : ((k l : ℕ) → k < r.calls + 2 → is_unlisted r shares k l ≡ false) → IsBestUnlisted r shares None
  none_unlisted none = λ k l undecided. false_from_ne_true _ (λ unlisted.
      true≢false (sym (both_true _ _ undecided unlisted) ∙ none k l (undecided_from r k l undecided)))
