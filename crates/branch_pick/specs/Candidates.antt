-- The arcs among which one is chosen: those that have an entry, and those that have none.
use Rattle.std.specs.Prelude.{◌≡◌, ℕ, ◌<◌, ◌&&◌, Bool, true, false, not, List, Option, MatchOption}
use Rattle.std.specs.List.{list_any}
use Rattle.orienteering.specs.Region.{Region, is_undecided}
use Rattle.branch_pick.specs.Choice.{is_of, distance, ComesFirst}
use Rattle.branch_pick.specs.declared.ArcShare.{ArcShare}
use Rattle.branch_pick.specs.declared.Candidate.{Candidate}

-- whether the arc has an entry
abbrev pub is_listed : List ArcShare → ℕ → ℕ → Bool
is_listed shares i j = list_any (is_of i j) shares

-- whether the arc is undecided and has no entry
abbrev pub is_unlisted : Region → List ArcShare → ℕ → ℕ → Bool
is_unlisted r shares i j = is_undecided r i j && not (is_listed shares i j)

-- the first candidate comes before the second, or is the same arc
abbrev pub IsNoLater : Candidate → Candidate → Type 0
IsNoLater c other = ComesFirst c.distance c.from c.to other.distance other.from other.to

-- there is a best candidate so far, and it comes before another
abbrev pub StaysFirst : Option Candidate → Candidate → Type 0
StaysFirst best other = MatchOption best ⊥ (λ c. IsNoLater c other)

-- the other candidate comes before the best so far, where there is one
abbrev pub GivesWay : Option Candidate → Candidate → Type 0
GivesWay best other = MatchOption best (Unit {0}) (λ c. IsNoLater other c)

-- there is a best candidate so far, and it is nearer to half a tour than an arc without parts
abbrev pub IsNear : Option Candidate → Type 0
IsNear best = MatchOption best ⊥ (λ c. c.distance < 500000)

-- the candidate is an undecided arc among these, and it comes before every other one
pub record IsFirstOf (among : ℕ → ℕ → Bool) (r : Region) (shares : List ArcShare) (c : Candidate) : Type 0 where
  pub undecided : is_undecided r c.from c.to ≡ true
  pub is_among : among c.from c.to ≡ true
  pub distance_is : c.distance ≡ distance shares c.from c.to
  pub first : (k l : ℕ) → is_undecided r k l ≡ true → among k l ≡ true → ComesFirst c.distance c.from c.to (distance shares k l) k l

-- the first undecided arc among these, or no undecided arc is one of these
abbrev pub IsBestOf : (ℕ → ℕ → Bool) → Region → List ArcShare → Option Candidate → Type 0
IsBestOf among r shares best =
    MatchOption best ((k l : ℕ) → is_undecided r k l ≡ true → among k l ≡ false) (IsFirstOf among r shares)

-- the first undecided arc that has an entry
abbrev pub IsBestListed : Region → List ArcShare → Option Candidate → Type 0
IsBestListed r shares best = IsBestOf (is_listed shares) r shares best

-- the first undecided arc that has no entry
abbrev pub IsBestUnlisted : Region → List ArcShare → Option Candidate → Type 0
IsBestUnlisted r shares best = IsBestOf (λ k l. not (is_listed shares k l)) r shares best

-- the first undecided arc
abbrev pub IsBest : Region → List ArcShare → Option Candidate → Type 0
IsBest r shares best = IsBestOf (λ _ _. true) r shares best

-- the first place that an undecided arc without an entry enters from this one
abbrev pub IsFirstTarget : Region → List ArcShare → ℕ → Option ℕ → Type 0
IsFirstTarget r shares from target =
    MatchOption target ((l : ℕ) → is_unlisted r shares from l ≡ false)
    (λ to. (is_unlisted r shares from to ≡ true) × ((l : ℕ) → l < to → is_unlisted r shares from l ≡ false))
