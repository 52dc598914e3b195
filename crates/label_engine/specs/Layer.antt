-- Labels that cover all fronts of at most so many calls, and how a layer of longer ones grows behind them, one call after
-- another.
use Rattle.std.specs.Prelude.{◌≡◌, ℕ, ◌+◌, ◌<◌, ◌≤◌, Bool, false, List, [], ◌++◌, length, slice_index_or, take, drop, Some, All, AllPairs}
use Rattle.label_core.specs.Resource.{Rules}
use Rattle.label_engine.specs.Front.{MoveRules, State, begun, moved, IsFrontState}
use Rattle.label_engine.specs.Settled.{state_of, HasParent, Covered}
use Rattle.label_engine.specs.Offer.{label_covers}
use Rattle.label_engine.specs.declared.label.Label.{Label}

-- neither covers the other
pub record Apart {K : Type 0} (covers : K → K → Bool) (a b : K) : Type 0 where
  pub first : covers a b ≡ false
  pub second : covers b a ≡ false

-- the first has no more calls than the second
pub record InOrder {R : Type 0} (a b : Label R) : Type 0 where
  pub rising : a.hops ≤ b.hops

-- the labels from this place on are those with so many calls, and the earlier ones have fewer
pub record IsLastLayer {R : Type 0} (hops start : ℕ) (labels : List (Label R)) : Type 0 where
  pub before : All (λ label. label.hops < hops) (take start labels)
  pub layer : All (λ label. label.hops ≡ hops) (drop start labels)

module _ {R S : Type 0} (rules : Rules R S) (moves : MoveRules R S) where
  -- a label of a front of at most so many calls
  pub record IsReached (hops : ℕ) (label : Label R) : Type 0 where
    pub front : IsFrontState rules moves hops (state_of label)
    pub few : label.hops ≤ hops

  -- the labels cover all fronts of at most so many calls, and one may cover another
  pub record Covering (hops : ℕ) (labels : List (Label R)) : Type 0 where
    pub reached : All (IsReached hops) labels
    pub covered : (s : State R) → IsFrontState rules moves hops s → Covered rules moves labels s
    pub parents : All (HasParent rules moves labels) labels

  -- the labels cover all fronts of at most so many calls, and none covers another
  pub record Whole (hops : ℕ) (labels : List (Label R)) : Type 0 where
    pub covering : Covering hops labels
    pub apart : AllPairs (Apart (label_covers rules)) labels
    pub rising : AllPairs InOrder labels

  -- a label one call longer than the old ones
  pub record IsNew (hops : ℕ) (old : List (Label R)) (label : Label R) : Type 0 where
    pub front : IsFrontState rules moves (hops + 1) (state_of label)
    pub hops_is : label.hops ≡ hops + 1
    pub parent : HasParent rules moves old label

  -- such a label at this call
  pub record IsNewAt (hops : ℕ) (old : List (Label R)) (call : ℕ) (label : Label R) : Type 0 where
    pub new : IsNew hops old label
    pub at : label.call ≡ call

  -- new labels behind the old ones
  pub record Grown (hops : ℕ) (old labels : List (Label R)) : Type 0 where
    pub layer : List (Label R)
    pub joined : labels ≡ old ++ layer
    pub new : All (IsNew hops old) layer

  -- new labels behind the old ones, of which none covers another
  pub record Growing (hops : ℕ) (old labels : List (Label R)) : Type 0 where
    pub grown : Grown hops old labels
    pub apart : AllPairs (Apart (label_covers rules)) labels

  -- the beginning at a call, if there is one, is covered
  pub record TriedBeginning (Fits : R → Type 0) (labels : List (Label R)) (call : ℕ) : Type 0 where
    pub covered : (t : State R) → Fits t.value → begun rules moves call ≡ Some t → Covered rules moves labels t

  -- what follows from a label by a call, if anything does, is covered
  pub record Tried (Fits : R → Type 0) (labels : List (Label R)) (from : Label R) (to : ℕ) : Type 0 where
    pub covered :
        (t : State R) → Fits t.value → moved rules moves (state_of from) to ≡ Some t → Covered rules moves labels t

  -- the bucket of a call, as far as it was made of the labels before this place
  pub record Bucket (Fits : R → Type 0) (hops start : ℕ) (old bucket : List (Label R)) (to place : ℕ) : Type 0 where
    pub new : All (IsNewAt hops old to) bucket
    pub apart : AllPairs (Apart (label_covers rules)) (old ++ bucket)
    pub tried : (i : ℕ) (d : Label R) → start ≤ i → i < place → Tried Fits (old ++ bucket) (slice_index_or old i d) to

  -- the layer behind the old labels, as far as the buckets of the calls below this one are made
  pub record NextLayer (Fits : R → Type 0) (hops start : ℕ) (old labels : List (Label R)) (to : ℕ) : Type 0 where
    pub growing : Growing hops old labels
    pub below : All (λ label. label.call < to) growing.grown.layer
    pub tried :
        (i : ℕ) (d : Label R) (call : ℕ) → start ≤ i → i < length old → 1 ≤ call → call < to →
        Tried Fits labels (slice_index_or old i d) call

  -- the first layer, as far as the calls below this one
  pub record FirstLayer (Fits : R → Type 0) (labels : List (Label R)) (to : ℕ) : Type 0 where
    pub growing : Growing 0 [] labels
    pub below : All (λ label. label.call < to) labels
    pub tried : (call : ℕ) → 1 ≤ call → call < to → TriedBeginning Fits labels call
