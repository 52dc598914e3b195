-- Rivals of a call: the states of some labels there, one of which is at least as good as any label there. Whatever a
-- label at the call covers with one hop more is beaten by a rival.
use Rattle.std.specs.Prelude.{◌≡◌, ℕ, ◌+◌, ◌<◌, true, not, filter, map, List, ◌++◌, length, slice_index_or, All, Contains, Vec}
use Rattle.std.specs.List.{list_any}
use Rattle.label_core.specs.Resource.{Rules}
use Rattle.label_engine.specs.Offer.{beats, is_outdone}
use Rattle.label_engine.specs.declared.label.Label.{Label}

-- the rival is the state of a label at the call
pub record StandsFor {R : Type 0} (labels : List (Label R)) (call : ℕ) (rival : R) : Type 0 where
  pub label : Label R
  pub held : Contains labels label
  pub at : label.call ≡ call
  pub state : label.state ≡ rival

module _ {R S : Type 0} (rules : Rules R S) where
  pub record AreRivals (labels : List (Label R)) (call : ℕ) (rivals : List R) : Type 0 where
    pub stand : All (StandsFor labels call) rivals
    pub beat : All (λ label. label.call ≡ call → list_any (beats rules label.state) rivals ≡ true) labels

  -- the rivals of each call, from call 1 on
  pub record AreAllRivals {A : Type 0} (labels : List (Label R)) (rows : List (Vec R A)) : Type 0 where
    pub row : (k : ℕ) (d : Vec R A) → k < length rows → AreRivals labels (k + 1) (slice_index_or rows k d).items

  -- the rivals of a call after its bucket is closed: those that the bucket doesn't outdo, and the states of the bucket
  abbrev pub closed_rivals : List (Label R) → List R → List R
  closed_rivals bucket rivals =
      filter (λ rival. not (is_outdone rules bucket rival)) rivals ++ map (λ label. label.state) bucket
