-- How the places of rows follow one another.
use Rattle.std.proofs.Common.{◌≡◌, ℕ, ◌+◌, List, [], ◌∷◌, ◌++◌, length, Result, Ok, Err, refl, sym, ap, ◌∙◌, append_assoc, append-nil, length-append, add-one}
use Rattle.orienteering.specs.declared.Place.{Place}
use Rattle.instance_files.specs.Lines.{Row}
use Rattle.instance_files.specs.Values.{◌>>=◌}
use Rattle.instance_files.specs.Rows.{Refusal, refusal, at_line, RowReading, places_of, IsFirstRefusal}
use Rattle.instance_files.specs.declared.table.FileFail.{FileFail}
use Rattle.instance_files.specs.declared.table.FileFail.TheVariants.{Refused, Memory}

-- these places, and then those that are read
abbrev pub behind : List Place → Result (List Place) Refusal → Result (List Place) Refusal
behind places (Ok others) = Ok (places ++ others)
behind places (Err r) = Err r

places-more : (read : RowReading) (n : ℕ) (places : List Place) (row : Row) (rows : List Row) (place : Place) → at_line row.line (read n row.fields) ≡ Ok place
    → behind places (places_of read n (row ∷ rows)) ≡ behind (places ++ place ∷ []) (places_of read (n + 1) rows)
unfolding places_of
places-more read n places row rows place is = rw is (by_rest (places_of read (n + 1) rows))
  where
    by_rest : (r : Result (List Place) Refusal) → behind places (r >>= λ others. Ok (place ∷ others)) ≡ behind (places ++ place ∷ []) r
    by_rest (Ok others) = ap (λ (x : List Place). let o : Result (List Place) Refusal = Ok x in o) (sym (append_assoc places (place ∷ []) others))
    by_rest (Err r) = refl

places-refused : (read : RowReading) (n : ℕ) (places : List Place) (row : Row) (rows : List Row) (r : Refusal) → at_line row.line (read n row.fields) ≡ Err r
    → behind places (places_of read n (row ∷ rows)) ≡ Err r
unfolding places_of
places-refused read n places row rows r is = rw is refl

places-all : (read : RowReading) (n : ℕ) (places : List Place) → behind places (places_of read n []) ≡ Ok places
unfolding places_of
places-all read n places = ap (λ (x : List Place). let o : Result (List Place) Refusal = Ok x in o) (append-nil places)

length-more : (places : List Place) (place : Place) → length (places ++ place ∷ []) ≡ length places + 1
length-more places place = length-append places (place ∷ [])

-- one turn of the loop over the rows
pub rows-step : (read : RowReading) (old new : List Place) (n : ℕ) (place : Place) (row : Row) (rows rest : List Row) (wanted : Result (List Place) Refusal)
    → n ≡ length old → new ≡ old ++ place ∷ [] → rows ≡ row ∷ rest → at_line row.line (read n row.fields) ≡ Ok place
    → behind old (places_of read (length old) rows) ≡ wanted → behind new (places_of read (length new) rest) ≡ wanted
rows-step read old new n place row rows rest wanted at grown first is same =
    let here : at_line row.line (read (length old) row.fields) ≡ Ok place = ap (λ (k : ℕ). at_line row.line (read k row.fields)) (sym at) ∙ is in
    rw (grown, length-more old place) (sym (places-more read (length old) old row rest place here) ∙ ap (λ (r : List Row). behind old (places_of read (length old) r)) (sym first) ∙ same)

-- a row that is refused
pub rows-refused : (read : RowReading) (old : List Place) (n : ℕ) (row : Row) (rows rest : List Row) (wanted : Result (List Place) Refusal) (fail : FileFail)
    → n ≡ length old → rows ≡ row ∷ rest → IsFirstRefusal (at_line row.line (read n row.fields)) fail
    → behind old (places_of read (length old) rows) ≡ wanted → IsFirstRefusal wanted fail
rows-refused read old n row rows rest wanted Memory at first is same = tt
rows-refused read old n row rows rest wanted (Refused line cause) at first is same =
    let here : at_line row.line (read (length old) row.fields) ≡ Err (refusal line cause) = ap (λ (k : ℕ). at_line row.line (read k row.fields)) (sym at) ∙ is in
    sym same ∙ ap (λ (r : List Row). behind old (places_of read (length old) r)) first ∙ places-refused read (length old) old row rest (refusal line cause) here

-- no row is left
pub rows-end : (read : RowReading) (old : List Place) (rows : List Row) (wanted : Result (List Place) Refusal)
    → rows ≡ [] → behind old (places_of read (length old) rows) ≡ wanted → wanted ≡ Ok old
rows-end read old rows wanted none same =
    sym same ∙ ap (λ (r : List Row). behind old (places_of read (length old) r)) none ∙ places-all read (length old) old
