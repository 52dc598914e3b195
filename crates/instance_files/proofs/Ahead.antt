-- How the lines of a file and its rows follow one another.
use Rattle.std.proofs.Common.{◌≡◌, ℕ, ◌+◌, ◌<◌, eqb, List, [], ◌∷◌, length, map, Option, Some, None, Bool, true, false, cond, refl, sym, ap, ap₂, ◌∙◌, arith}
use Rattle.std.specs.List.{slice_split, onto_first, filter}
use Rattle.instance_files.specs.Lines.{is_line_feed, is_nonempty, without_return, without_empty_last, fields, lines, numbered, rows_from, end_from, Row}
use Rattle.instance_files.specs.NextField.{first_line, behind_line, line_ahead, fields_ahead}
use Rattle.instance_files.specs.Kept.{kept, kept_row}
use Rattle.instance_files.specs.Ahead.{Ahead, ahead, rest_behind}
use Rattle.instance_files.proofs.KeptFields.{none-kept, some-kept}

-- the parts behind the first
parts_behind : Option (List ℕ) → List (List ℕ)
parts_behind None = []
parts_behind (Some bytes) = slice_split is_line_feed bytes

split-first : (bytes : List ℕ) → slice_split is_line_feed bytes ≡ first_line bytes ∷ parts_behind (behind_line bytes)
unfolding parts_behind
split-first [] = refl
split-first (b ∷ bytes) = by_test (eqb b 10) (split-first bytes)
  where
    by_test : (t : Bool) → slice_split is_line_feed bytes ≡ first_line bytes ∷ parts_behind (behind_line bytes)
        → cond t ([] ∷ slice_split is_line_feed bytes) (onto_first b (slice_split is_line_feed bytes)) ≡ cond t [] (b ∷ first_line bytes) ∷ parts_behind (cond t (Some bytes) (behind_line bytes))
    by_test true same = refl
    by_test false same = ap (onto_first b) same

-- the last line is whole
last-line : (b : ℕ) (bytes : List ℕ) → behind_line (b ∷ bytes) ≡ None → is_nonempty (first_line (b ∷ bytes)) ≡ true
last-line b bytes = by_test (eqb b 10)
  where
    by_test : (t : Bool) → cond t (Some bytes) (behind_line bytes) ≡ None → is_nonempty (cond t [] (b ∷ first_line bytes)) ≡ true
    by_test true h = absurd cc
    by_test false h = refl

lines-first : (b : ℕ) (bytes : List ℕ) → lines (b ∷ bytes) ≡ line_ahead (b ∷ bytes) ∷ lines (rest_behind (behind_line (b ∷ bytes)))
unfolding parts_behind
lines-first b bytes = ap (λ parts. map without_return (without_empty_last parts)) (split-first (b ∷ bytes)) ∙ by_rest (behind_line (b ∷ bytes)) refl
  where
    more : (rest : List ℕ) → map without_return (without_empty_last (first_line (b ∷ bytes) ∷ slice_split is_line_feed rest)) ≡ line_ahead (b ∷ bytes) ∷ lines rest
    more rest = rw (split-first rest) refl

    by_rest : (o : Option (List ℕ)) → behind_line (b ∷ bytes) ≡ o → map without_return (without_empty_last (first_line (b ∷ bytes) ∷ parts_behind o)) ≡ line_ahead (b ∷ bytes) ∷ lines (rest_behind o)
    by_rest None h = let some = last-line b bytes h in rw some refl
    by_rest (Some rest) h = more rest

-- the rows among numbered lines, with the fields that are kept
kept_rows : List Row → List Row
kept_rows rows = map kept_row (filter (λ row. is_nonempty row.fields) rows)

rows-blank : (number : ℕ) (fields : List (List ℕ)) (rows : List Row) → fields ≡ [] → kept_rows (record { line = number; fields = fields } ∷ rows) ≡ kept_rows rows
unfolding kept_rows
rows-blank number fields rows none = rw none refl

rows-filled : (number : ℕ) (fields : List (List ℕ)) (rows : List Row) → is_nonempty fields ≡ true →
    kept_rows (record { line = number; fields = fields } ∷ rows) ≡ record { line = number; fields = kept fields } ∷ kept_rows rows
unfolding kept_rows
rows-filled number fields rows some = rw some refl

numbered-first : (number : ℕ) (b : ℕ) (bytes : List ℕ) →
    numbered number (lines (b ∷ bytes)) ≡ record { line = number; fields = fields (line_ahead (b ∷ bytes)) } ∷ numbered (number + 1) (lines (rest_behind (behind_line (b ∷ bytes))))
numbered-first number b bytes = ap (numbered number) (lines-first b bytes)

end-first : (number : ℕ) (b : ℕ) (bytes : List ℕ) → end_from number (b ∷ bytes) ≡ end_from (number + 1) (rest_behind (behind_line (b ∷ bytes)))
end-first number b bytes = let e = ap length (lines-first b bytes) in omega (arith, e)

pub ahead-none : (number : ℕ) (bytes : List ℕ) → bytes ≡ [] → ((ahead number bytes).rows ≡ []) × ((ahead number bytes).end ≡ number)
unfolding ahead
ahead-none number bytes is = rw is (refl, omega arith)

pub ahead-blank : (number : ℕ) (bytes rest : List ℕ) → 0 < length bytes → rest ≡ rest_behind (behind_line bytes) →
    length (kept (fields_ahead bytes)) ≡ 0 → ahead number bytes ≡ ahead (number + 1) rest
unfolding ahead fields_ahead kept_rows
ahead-blank number [] rest some behind none = absurd (omega arith)
ahead-blank number (b ∷ bytes) rest some behind none =
    rw behind (ap₂ (λ (x : List Row) (y : ℕ). let a : Ahead = record { rows = x; end = y } in a)
    (ap kept_rows (numbered-first number b bytes) ∙ rows-blank number (fields_ahead (b ∷ bytes)) (numbered (number + 1) (lines (rest_behind (behind_line (b ∷ bytes))))) (none-kept (fields_ahead (b ∷ bytes)) none))
    (end-first number b bytes))

pub ahead-row : (number : ℕ) (bytes rest : List ℕ) (given : List (List ℕ)) → 0 < length bytes → rest ≡ rest_behind (behind_line bytes) →
    given ≡ kept (fields_ahead bytes) → 0 < length given →
    ((ahead number bytes).rows ≡ record { line = number; fields = given } ∷ (ahead (number + 1) rest).rows) × ((ahead number bytes).end ≡ (ahead (number + 1) rest).end)
unfolding ahead fields_ahead kept_rows
ahead-row number [] rest given some behind is filled = absurd (omega arith)
ahead-row number (b ∷ bytes) rest given some behind is filled =
    let full : is_nonempty (fields_ahead (b ∷ bytes)) ≡ true = some-kept (fields_ahead (b ∷ bytes)) (omega (arith, ap length is)) in
    rw (behind, is) (ap kept_rows (numbered-first number b bytes) ∙ rows-filled number (fields_ahead (b ∷ bytes)) (numbered (number + 1) (lines (rest_behind (behind_line (b ∷ bytes))))) full, end-first number b bytes)
