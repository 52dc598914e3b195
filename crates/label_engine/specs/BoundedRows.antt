-- How a layer of labels grows where each call has a row of a few rivals: a label is left out only where a rival is at
-- least as good, so labels that others cover may stay.
use Rattle.std.specs.Prelude.{◌≡◌, ℕ, ◌+◌, ◌<◌, ◌≤◌, nat_lt, if◌then◌else◌, List, [], ◌∷◌, ◌++◌, length, set, take, slice_index_or, All, Option, None, Some, Vec}
use Rattle.std.specs.List.{list_any}
use Rattle.label_core.specs.Resource.{Rules}
use Rattle.label_engine.specs.Front.{MoveRules}
use Rattle.label_engine.specs.Layer.{IsNewAt, Grown, Tried}
use Rattle.label_engine.specs.Offer.{beats}
use Rattle.label_engine.specs.Rivals.{StandsFor}
use Rattle.label_engine.specs.declared.label.Label.{Label}

-- the row with one rival more while it holds fewer than 32, and then with it in place of the one at a place
abbrev pub replaced : {R : Type 0} → List R → ℕ → R → List R
replaced row place rival = if nat_lt (length row) 32 then row ++ rival ∷ [] else set row place rival

-- the label, unless a rival is at least as good
abbrev pub kept : {R S : Type 0} → Rules R S → List R → Label R → List (Label R)
kept rules row label = if list_any (beats rules label.state) row then [] else label ∷ []

-- the label that was found, where one was, unless one of the first 8 rivals is at least as good
abbrev pub gathered : {R S : Type 0} → Rules R S → List R → Option (Label R) → List (Label R)
gathered rules row None = []
gathered rules row (Some label) = kept rules (take 8 row) label

-- the second list is the first with more behind it
pub record IsLonger {X : Type 0} (xs ys : List X) : Type 0 where
  pub more : List X
  pub joined : ys ≡ xs ++ more

-- each rival of a row is the state of a label at the row's call, from call 1 on
pub record AreRowsOf {R A : Type 0} (labels : List (Label R)) (rows : List (Vec R A)) : Type 0 where
  pub row : (k : ℕ) (d : Vec R A) → k < length rows → All (StandsFor labels (k + 1)) (slice_index_or rows k d).items

module _ {R S : Type 0} (rules : Rules R S) (moves : MoveRules R S) where
  -- the labels and the candidates of a call, where the labels of the last layer before a place were extended to it
  pub record CallLayer (Fits : R → Type 0) (hops start : ℕ) (old labels candidates : List (Label R)) (to place : ℕ) : Type 0 where
    pub grown : Grown rules moves hops old labels
    pub new : All (IsNewAt rules moves hops old to) candidates
    pub tried :
        (i : ℕ) (d : Label R) → start ≤ i → i < place →
        Tried rules moves Fits (labels ++ candidates) (slice_index_or old i d) to

  -- the labels, where the last layer was extended to the calls below this one
  pub record LongerFronts (Fits : R → Type 0) (hops start : ℕ) (old labels : List (Label R)) (to : ℕ) : Type 0 where
    pub grown : Grown rules moves hops old labels
    pub tried :
        (i : ℕ) (d : Label R) (call : ℕ) → start ≤ i → i < length old → 1 ≤ call → call < to →
        Tried rules moves Fits labels (slice_index_or old i d) call
