-- The first call of a walk that comes back.
use Rattle.std.specs.Prelude.{ℕ, Bool, List, [], ◌∷◌, ◌++◌, Option, None, Some, nat_eq, if◌then◌else◌}
use Rattle.std.specs.List.{list_any}
use Rattle.label_engine.specs.declared.replay.Outcome.{Outcome}
use Rattle.label_engine.specs.declared.replay.Outcome.TheVariants.{NoWalk, Best}

-- whether the call is one of these
abbrev pub stands_in : List ℕ → ℕ → Bool
stands_in calls call = list_any (nat_eq call) calls

-- the first of the calls that also stands before it, where the earlier calls stand before them all
abbrev pub repeated_after : List ℕ → List ℕ → Option ℕ
repeated_after earlier [] = None
repeated_after earlier (call ∷ calls) =
    if stands_in earlier call then Some call else repeated_after (earlier ++ call ∷ []) calls

-- the call at the earliest place of the walk whose call also stands at an earlier place
abbrev pub first_repeated : List ℕ → Option ℕ
first_repeated walk = repeated_after [] walk

-- the call that the walk of an outcome repeats first
abbrev pub repeated : Outcome → Option ℕ
repeated NoWalk = None
repeated (Best sigma walk) = first_repeated walk
