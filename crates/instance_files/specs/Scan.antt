-- How many bytes a blank part, a field and a line's end take.
use Rattle.std.specs.Prelude.{ℕ, suc, ◌||◌, ◌&&◌, Bool, true, List, [], ◌∷◌, Option, Some, None, ◌==◌, if◌then◌else◌}
use Rattle.instance_files.specs.Lines.{is_blank, is_line_feed}

-- how many blanks stand first
abbrev pub blanks_len : List ℕ → ℕ
blanks_len [] = 0
blanks_len (b ∷ bytes) = if is_blank b then suc (blanks_len bytes) else 0

-- nothing is left, or a line feed stands first
abbrev pub begins_with_feed : List ℕ → Bool
begins_with_feed [] = true
begins_with_feed (b ∷ bytes) = is_line_feed b

-- the line ends here, after a carriage return that is dropped or at once
abbrev pub is_line_end : List ℕ → Bool
is_line_end [] = true
is_line_end (b ∷ bytes) = is_line_feed b || ((b == 13) && begins_with_feed bytes)

-- how many bytes stand before the next blank or the line's end
abbrev pub field_len : List ℕ → ℕ
field_len [] = 0
field_len (b ∷ bytes) = if is_blank b || is_line_end (b ∷ bytes) then 0 else suc (field_len bytes)

-- how many bytes the line's end takes with its line feed, where it has one
abbrev pub line_end_len : List ℕ → Option ℕ
line_end_len [] = None
line_end_len (b ∷ []) = if is_line_feed b then Some 1 else None
line_end_len (b ∷ c ∷ bytes) = if is_line_feed b then Some 1 else Some 2
