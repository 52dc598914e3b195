-- The bytes of a file, cut into lines and fields.
use Rattle.std.specs.Prelude.{ℕ, ◌+◌, ◌||◌, Bool, true, false, List, [], ◌∷◌, length, map, ◌==◌, if◌then◌else◌}
use Rattle.std.specs.List.{filter, slice_split}

-- a line feed
abbrev pub is_line_feed : ℕ → Bool
is_line_feed b = b == 10

-- a space or a tab
abbrev pub is_blank : ℕ → Bool
is_blank b = (b == 32) || (b == 9)

abbrev pub is_nonempty : {A : Type 0} → List A → Bool
is_nonempty [] = false
is_nonempty (x ∷ xs) = true

-- the line less a carriage return that stands last
abbrev pub without_return : List ℕ → List ℕ
without_return [] = []
without_return (b ∷ []) = if b == 13 then [] else b ∷ []
without_return (b ∷ c ∷ line) = b ∷ without_return (c ∷ line)

-- the parts between blanks that aren't empty
abbrev pub fields : List ℕ → List (List ℕ)
fields line = filter is_nonempty (slice_split is_blank line)

-- the parts, less an empty last part
abbrev pub without_empty_last : List (List ℕ) → List (List ℕ)
without_empty_last [] = []
without_empty_last (part ∷ []) = filter is_nonempty (part ∷ [])
without_empty_last (part ∷ next ∷ parts) = part ∷ without_empty_last (next ∷ parts)

-- the lines between line feeds; behind a last line feed there is no further line
abbrev pub lines : List ℕ → List (List ℕ)
lines bytes = map without_return (without_empty_last (slice_split is_line_feed bytes))

-- a line that isn't blank: its number in the file, and its fields
pub record Row : Type 0 where
  pub line : ℕ
  pub fields : List (List ℕ)

-- the fields of the lines with their numbers, counted from this one
abbrev pub numbered : ℕ → List (List ℕ) → List Row
numbered number [] = []
numbered number (line ∷ more) = record { line = number; fields = fields line } ∷ numbered (number + 1) more

-- the lines that aren't blank; a blank line counts as a line
abbrev pub rows_from : ℕ → List ℕ → List Row
rows_from number bytes = filter (λ row. is_nonempty row.fields) (numbered number (lines bytes))

-- the number behind that of the last line
abbrev pub end_from : ℕ → List ℕ → ℕ
end_from number bytes = number + length (lines bytes)
