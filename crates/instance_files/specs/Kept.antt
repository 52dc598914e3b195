-- The fields of a line that are kept: no profile reads more.
use Rattle.std.specs.Prelude.{ℕ, ◌-◌, List, [], ◌∷◌, ◌++◌, length, take, drop, nat_lt, nat_le, if◌then◌else◌}
use Rattle.instance_files.specs.Lines.{Row}

-- the first five fields and the last two, all where there are at most seven
abbrev pub kept : List (List ℕ) → List (List ℕ)
kept fields = if nat_le (length fields) 7 then fields else take 5 fields ++ drop (length fields - 2) fields

abbrev pub kept_row : Row → Row
kept_row row = record { line = row.line; fields = kept row.fields }

-- the fields that are kept once one more is read
abbrev pub with_field : List (List ℕ) → List ℕ → List (List ℕ)
with_field fields field = if nat_lt (length fields) 7 then fields ++ field ∷ [] else take 5 fields ++ drop 6 fields ++ field ∷ []
