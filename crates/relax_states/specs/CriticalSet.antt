-- A critical set with one more call.
use Rattle.std.specs.Prelude.{ℕ, List, [], ◌∷◌, nat_lt, if◌then◌else◌}

-- rising calls with one more in its place
abbrev pub with_call : List ℕ → ℕ → List ℕ
with_call [] call = call ∷ []
with_call (c ∷ cs) call = if nat_lt c call then c ∷ with_call cs call else call ∷ c ∷ cs
