-- One label more: what a step gives, and how the bucket of a call takes it.
use Rattle.std.specs.Prelude.{ℕ, ◌+◌, Bool, not, if◌then◌else◌, List, [], ◌∷◌, ◌++◌, filter, Option, None, Some}
use Rattle.std.specs.List.{list_any}
use Rattle.std.specs.Option.{option_and_then, option_map}
use Rattle.label_core.specs.Resource.{Rules}
use Rattle.label_engine.specs.Front.{MoveRules, State, covers, begun}
use Rattle.label_engine.specs.Settled.{state_of}
use Rattle.label_engine.specs.declared.label.Label.{Label}

abbrev pub labelled : {R : Type 0} → Option ℕ → State R → Label R
labelled parent s = record { call = s.call; hops = s.hops; state = s.value; parent = parent }

abbrev pub label_covers : {R S : Type 0} → Rules R S → Label R → Label R → Bool
label_covers rules a b = covers rules (state_of a) (state_of b)

-- the label of a front of one call, where there is one
abbrev pub begun_label : {R S : Type 0} → Rules R S → MoveRules R S → ℕ → Option (Label R)
begun_label rules moves call = option_map (labelled None) (begun rules moves call)

-- the label at a place, one call further by the step, where there is one
abbrev pub stepped_label : {R S : Type 0} → Rules R S → Label R → ℕ → Option S → ℕ → Option (Label R)
stepped_label rules label place step to =
    option_map (labelled (Some place))
    (option_map (λ value. record { hops = label.hops + 1; call = to; value = value })
    (option_and_then (rules.extended label.state) step))

-- the list with one more element, unless one in it is at least as good, and without those that the new one is at least
-- as good as
abbrev pub offered : {K : Type 0} → (K → K → Bool) → List K → K → List K
offered better kept candidate =
    if list_any (λ k. better k candidate) kept then kept
    else filter (λ k. not (better candidate k)) kept ++ candidate ∷ []

-- what the first label has is at least as good
abbrev pub is_better : {R S : Type 0} → Rules R S → Label R → Label R → Bool
is_better rules a b = rules.leq a.state b.state

-- the rival is at least as good as the value
abbrev pub beats : {R S : Type 0} → Rules R S → R → R → Bool
beats rules value rival = rules.leq rival value

-- the bucket after a label was found, where one was: it is left out where a rival is at least as good
abbrev pub taken : {R S : Type 0} → Rules R S → List R → List (Label R) → Option (Label R) → List (Label R)
taken rules rivals bucket None = bucket
taken rules rivals bucket (Some label) =
    if list_any (beats rules label.state) rivals then bucket else offered (is_better rules) bucket label

-- a label of the bucket is at least as good as the rival
abbrev pub is_outdone : {R S : Type 0} → Rules R S → List (Label R) → R → Bool
is_outdone rules bucket rival = list_any (λ label. rules.leq label.state rival) bucket
