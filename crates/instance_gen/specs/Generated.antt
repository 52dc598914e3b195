-- The text of an instance that a seed generates.
use Rattle.std.specs.Prelude.{ℕ, ◌+◌, ◌*◌, ◌%◌, List, [], ◌∷◌, ◌++◌, decimal, codes}
use Rattle.std.specs.List.{flat_map}
use Rattle.text_parts.specs.Texts.{ended_number}
use Rattle.draws.specs.Draws.{draws}
use Rattle.instance_files.specs.declared.file.Format.{Format}
use Rattle.instance_files.specs.declared.file.Format.TheVariants.{Op, Top, Toptw}

-- ---- lines

-- a number behind a space
abbrev pub spaced : ℕ → List ℕ
spaced n = codes " " ++ decimal n

-- a line of numbers, one space between them
abbrev pub numbers_line : List ℕ → List ℕ
numbers_line [] = codes "\n"
numbers_line (n ∷ others) = decimal n ++ (flat_map spaced others ++ codes "\n")

-- lines of numbers, one behind the other
abbrev pub lines_text : List (List ℕ) → List ℕ
lines_text lines = flat_map numbers_line lines

-- a line with a word and a number
abbrev pub word_line : List ℕ → ℕ → List ℕ
word_line word n = word ++ ended_number (codes "\n") n

-- ---- calls

-- x, y and score of a call, by its draws
abbrev pub plain_call : ℕ → ℕ → ℕ → List ℕ
plain_call x y score = x % 101 ∷ y % 101 ∷ (1 + score % 20) ∷ []

-- number, x, y, service, score, two fields that aren't read, opening and closing of a call, by its number and its draws
abbrev pub windowed_call : ℕ → ℕ → ℕ → ℕ → ℕ → List ℕ
windowed_call number x y score opening =
    number ∷ x % 101 ∷ y % 101 ∷ 10 ∷ (1 + score % 20) ∷ 0 ∷ 0 ∷ opening % 120 ∷ (opening % 120 + 60) ∷ []

-- the calls of these draws, three for each
abbrev pub plain_calls : List ℕ → List (List ℕ)
plain_calls [] = []
plain_calls (x ∷ []) = []
plain_calls (x ∷ y ∷ []) = []
plain_calls (x ∷ y ∷ score ∷ others) = plain_call x y score ∷ plain_calls others

-- the calls of these draws, four for each, the first of which has this number
abbrev pub windowed_calls : ℕ → List ℕ → List (List ℕ)
windowed_calls number [] = []
windowed_calls number (x ∷ []) = []
windowed_calls number (x ∷ y ∷ []) = []
windowed_calls number (x ∷ y ∷ score ∷ []) = []
windowed_calls number (x ∷ y ∷ score ∷ opening ∷ others) =
    windowed_call number x y score opening ∷ windowed_calls (number + 1) others

-- ---- files

-- the start or the end, in the middle of the square
abbrev pub middle : List ℕ
middle = 50 ∷ 50 ∷ 0 ∷ []

-- limit and tours, the start and the end, and the calls
abbrev pub op_lines : List (List ℕ) → List (List ℕ)
op_lines calls = (120 ∷ 2 ∷ []) ∷ middle ∷ middle ∷ calls

-- the numbers of places, of tours and the limit, then the start, the calls and the end
abbrev pub top_text : ℕ → List (List ℕ) → List ℕ
top_text places calls =
    word_line (codes "n ") places
    ++ (word_line (codes "m ") 2 ++ (word_line (codes "tmax ") 60 ++ lines_text (middle ∷ calls ++ middle ∷ [])))

-- tours and places, a line that isn't read, the start, which is the end too, and the calls
abbrev pub toptw_lines : ℕ → List (List ℕ) → List (List ℕ)
toptw_lines places calls =
    (0 ∷ 2 ∷ places ∷ 0 ∷ [])
    ∷ (0 ∷ 0 ∷ [])
    ∷ (0 ∷ 50 ∷ 50 ∷ 0 ∷ 0 ∷ 0 ∷ 0 ∷ 0 ∷ 240 ∷ [])
    ∷ calls

-- the text for a seed, a number of calls and a format
abbrev pub generated : ℕ → ℕ → Format → List ℕ
generated seed calls Op = lines_text (op_lines (plain_calls (draws seed (3 * calls))))
generated seed calls Top = top_text (calls + 2) (plain_calls (draws seed (3 * calls)))
generated seed calls Toptw = lines_text (toptw_lines (calls + 1) (windowed_calls 1 (draws seed (4 * calls))))
