-- The texts that are printed: lines that end with a line feed, numbers in decimal digits.
use Rattle.std.specs.Prelude.{ℕ, ◌-◌, List, [], ◌∷◌, ◌++◌, length, replicate, decimal, codes, None, Some, slice_get}
use Rattle.std.specs.List.{flat_map}
use Rattle.text_parts.specs.Texts.{ended_number, counted_text}
use Rattle.orienteering.specs.declared.Point.{Point}
use Rattle.orienteering.specs.declared.Box2.{Box2}
use Rattle.orienteering.specs.declared.Listed.{Listed}
use Rattle.report_text.specs.declared.style.Style.{Style}
use Rattle.report_text.specs.declared.style.Style.TheVariants.{Plain, Table}

-- ---- the plain style

-- a number behind a space
abbrev pub spaced : ℕ → List ℕ
spaced n = codes " " ++ decimal n

abbrev pub tour_line : List ℕ → List ℕ
tour_line calls = codes "tour" ++ (flat_map spaced calls ++ codes "\n")

-- profit, time and number of tours, and the tours
abbrev pub point_lines : Listed → List ℕ
point_lines listed =
    codes "point "
    ++ (ended_number (codes " ") listed.point.profit
    ++ (ended_number (codes " ") listed.point.time
    ++ (ended_number (codes "\n") (length listed.plan) ++ flat_map tour_line listed.plan)))

abbrev pub box_line : Box2 → List ℕ
box_line b =
    codes "box "
    ++ (ended_number (codes " ") b.p_lo
    ++ (ended_number (codes " ") b.p_hi
    ++ (ended_number (codes " ") b.t_lo ++ ended_number (codes "\n") b.t_hi)))

-- ---- the table

-- the text behind spaces that fill so many places; a wider one is left whole
abbrev pub right : ℕ → List ℕ → List ℕ
right places text = replicate (places - length text) 32 ++ text

-- the texts of the items with another between them
abbrev pub joined : {A : Type 0} → List ℕ → (A → List ℕ) → List A → List ℕ
joined between text [] = []
joined between text (x ∷ xs) = text x ++ flat_map (λ y. between ++ text y) xs

abbrev pub table_head : List ℕ
table_head =
    right 10 (codes "profit") ++ (right 12 (codes "time") ++ (right 6 (codes "tours") ++ codes "  calls\n"))

-- the calls of the tours, tours parted by bars
abbrev pub calls_column : List (List ℕ) → List ℕ
calls_column [] = []
calls_column (tour ∷ tours) = codes "  " ++ joined (codes " | ") (joined (codes " ") decimal) (tour ∷ tours)

abbrev pub point_row : Listed → List ℕ
point_row listed =
    right 10 (decimal listed.point.profit)
    ++ (right 12 (decimal listed.point.time)
    ++ (right 6 (decimal (length listed.plan)) ++ (calls_column listed.plan ++ codes "\n")))

-- ---- the report

abbrev pub points_text : Style → List Listed → List ℕ
points_text Plain points = counted_text (codes "points ") point_lines points
points_text Table points = table_head ++ flat_map point_row points

abbrev pub report_text : Style → List Listed → List Box2 → List ℕ
report_text style points boxes = points_text style points ++ counted_text (codes "boxes ") box_line boxes

-- ---- the summary

-- the point that is listed last, or 0 and 0 where none is
abbrev pub last_point : List Listed → Point
last_point points =
    elim (slice_get points (length points - 1)) [ Some listed ↦ listed.point | None ↦ record { profit = 0; time = 0 } ]

-- a line with a word and a number
abbrev pub numbered : List ℕ → ℕ → List ℕ
numbered word n = word ++ ended_number (codes "\n") n

abbrev pub summary_text : ℕ → List Listed → List Box2 → List ℕ
summary_text calls points boxes =
    numbered (codes "calls ") calls
    ++ (numbered (codes "points ") (length points)
    ++ (numbered (codes "boxes ") (length boxes)
    ++ (numbered (codes "profit ") (last_point points).profit ++ numbered (codes "time ") (last_point points).time)))
