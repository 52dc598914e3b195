-- Calls, entries, tours and points are read exactly: the value is the one whose text stands there, and the stop is where
-- no text goes on.
use Rattle.std.proofs.Common.{◌≡◌, ℕ, List, [], ◌∷◌, ◌++◌, length, Ok, refl, sym, ap, subst, ◌∙◌, arith, ℤ}
use Rattle.std.specs.Prelude.{decimal, codes}
use Rattle.std.specs.Fmt.{signed_decimal}
use Rattle.std.specs.List.{flat_map}
use Rattle.std.proofs.lemmas.List.{append-nil}
use Rattle.orienteering.specs.declared.Listed.{Listed}
use Rattle.text_parts.specs.Reading.{U32, U64, word_at}
use Rattle.text_parts.specs.Reads.{StartsOutside, Reads, NoByte}
use Rattle.text_parts.specs.Texts.{ended_number, WordText, NumberText, SignedText, IsDigit, IsTextOf}
use Rattle.text_parts.proofs.Laws.{Joins, bind, Follows, bind_reads}
use Rattle.text_parts.proofs.Parts.{word_reads, IsNothing, nothing_reads, IsMapped, mapped_reads}
use Rattle.text_parts.proofs.Numbers.{number_reads, signed_reads}
use Rattle.text_parts.proofs.Lists.{follows_list, IsListThen, list_reads, Guards, listing, listed}
use Rattle.text_parts.proofs.Sequences.{free, both, texts_read, join, last_word, last_word_is, word_guards, not_digit_10, not_digit_32, AtMost, spaced_reads, lined_reads}
use Rattle.cert_text.specs.Reading.{call_at, entry_at, tour_at, point_at}
use Rattle.cert_text.specs.Text.{call_text, calls_text, tour_text, point_text, entry_text, IsCall, IsCalls, IsListed, IsEntry}

-- ---- a call

abbrev CallSpelled : ℕ → List ℕ → Type 0
CallSpelled = Joins (WordText (codes " ")) (λ _. NumberText U32)

call_text_of : (call : ℕ) (text : List ℕ) → CallSpelled call text → IsTextOf IsCall call_text call text
call_text_of call text j =
    (omega (arith, j.spelled.bounded), j.joined ∙ ap (λ (x : List ℕ). x ++ j.second) j.key_spelled ∙ ap (λ (x : List ℕ). codes " " ++ x) j.spelled.text_is)

pub call_reads : Reads (IsTextOf IsCall call_text) IsDigit call_at
unfolding call_at
call_reads =
    texts_read IsCall call_text (bind_reads (word_reads (codes " ")) (λ _. number_reads U32 (omega arith)) (free _)) call_text_of
    (λ call lt. join tt (codes " ") (decimal call) refl record { bounded = omega arith; text_is = refl })

pub call_guards : Guards IsDigit (IsTextOf IsCall call_text)
call_guards call text rest p b behind e digit =
    let front : text ++ rest ≡ 32 ∷ (decimal call ++ rest) = ap (λ (x : List ℕ). x ++ rest) p.1 in
    let same : b ≡ 32 = cc in
    not_digit_32 (subst IsDigit same digit)

-- ---- an entry of a price

abbrev EntrySpelled : ℕ × ℤ → List ℕ → Type 0
EntrySpelled = Joins (WordText (codes " ")) (λ _. Joins (NumberText U32) (λ call. Joins (WordText (codes " ")) (λ _. IsMapped (λ z. (call, z)) SignedText)))

entry_text_of : (entry : ℕ × ℤ) (text : List ℕ) → EntrySpelled entry text → IsTextOf IsEntry entry_text entry text
entry_text_of entry text j =
    let call = j.spelled in
    let second = call.spelled in
    let price = second.spelled in
    let made : IsTextOf IsEntry entry_text (call.key, price.of) text = (
      (omega (arith, call.key_spelled.bounded), price.spelled.bounded),
      both j.joined j.key_spelled (both call.joined call.key_spelled.text_is (both second.joined second.key_spelled price.spelled.text_is)),
    ) in
    subst (λ (x : ℕ × ℤ). IsTextOf IsEntry entry_text x text) (sym price.value_is) made

pub entry_reads : Reads (IsTextOf IsEntry entry_text) IsDigit entry_at
unfolding entry_at
entry_reads =
    texts_read IsEntry entry_text
    (bind_reads (word_reads (codes " "))
    (λ _. bind_reads (number_reads U32 (omega arith))
    (λ call. bind_reads (word_reads (codes " ")) (λ _. mapped_reads (λ z. (call, z)) signed_reads) (free _))
    (λ call. word_guards 32 [] (IsMapped (λ z. (call, z)) SignedText) not_digit_32))
    (free _))
    entry_text_of
    (λ entry p. join tt (codes " ") (decimal entry.0 ++ (codes " " ++ signed_decimal entry.1)) refl
    (join entry.0 (decimal entry.0) (codes " " ++ signed_decimal entry.1) record { bounded = omega (arith, p.0); text_is = refl }
    (join tt (codes " ") (signed_decimal entry.1) refl record { of = entry.1; value_is = refl; spelled = record { bounded = p.1; text_is = refl } })))

pub entry_guards : Guards IsDigit (IsTextOf IsEntry entry_text)
entry_guards entry text rest p b behind e digit =
    let front : text ++ rest ≡ 32 ∷ ((decimal entry.0 ++ (codes " " ++ signed_decimal entry.1)) ++ rest) = ap (λ (x : List ℕ). x ++ rest) p.1 in
    let same : b ≡ 32 = cc in
    not_digit_32 (subst IsDigit same digit)

-- ---- calls up to the end of the line, and a tour

abbrev pub CallsSpelled : ℕ → List ℕ → List ℕ → Type 0
CallsSpelled count = IsListThen count (IsTextOf IsCall call_text) (λ calls. Joins (WordText (codes "\n")) (λ _. IsNothing calls))

abbrev TourSpelled : List ℕ → List ℕ → Type 0
TourSpelled = Joins (WordText (codes "tour ")) (λ _. Joins (NumberText U64) CallsSpelled)

-- a line end behind calls
pub calls_end : (calls c : List ℕ) (text rest : List ℕ) → Joins (WordText (codes "\n")) (λ _. IsNothing calls) c text → StartsOutside IsDigit (text ++ rest)
calls_end calls = word_guards 10 [] (IsNothing calls) not_digit_10

pub calls_follow : Follows IsDigit CallsSpelled
calls_follow count = follows_list call_guards count (λ calls. Joins (WordText (codes "\n")) (λ _. IsNothing calls)) calls_end

tour_text_of : (calls : List ℕ) (text : List ℕ) → TourSpelled calls text → IsTextOf IsCalls tour_text calls text
tour_text_of calls text j =
    let number = j.spelled in
    let l = listing IsCall call_text (λ a t p. p) number.key (λ xs. Joins (WordText (codes "\n")) (λ _. IsNothing xs)) calls number.second number.spelled in
    let last = last_word_is (codes "\n") l.items calls l.behind l.under in
    let made : IsTextOf IsCalls tour_text l.items text = (
      (omega (arith, l.count, number.key_spelled.bounded), l.valid),
      both j.joined j.key_spelled (both number.joined (number.key_spelled.text_is ∙ ap decimal (sym l.count)) (both l.joined refl last.1)),
    ) in
    subst (λ (x : List ℕ). IsTextOf IsCalls tour_text x text) (sym last.0) made

pub tour_reads : Reads (IsTextOf IsCalls tour_text) NoByte tour_at
unfolding tour_at
tour_reads =
    texts_read IsCalls tour_text
    (bind_reads (word_reads (codes "tour "))
    (λ _. bind_reads (number_reads U64 (omega arith))
    (λ count. list_reads call_reads call_guards count (λ calls. Joins (WordText (codes "\n")) (λ _. IsNothing calls)) (λ calls. bind (word_at (codes "\n")) (λ _ bytes. Ok (calls, bytes)))
    (λ calls. bind_reads (word_reads (codes "\n")) (λ _. nothing_reads NoByte calls) (free _)) calls_end)
    calls_follow)
    (free _))
    tour_text_of
    (λ calls p. join tt (codes "tour ") (decimal (length calls) ++ calls_text calls) refl
    (join (length calls) (decimal (length calls)) (calls_text calls) record { bounded = omega (arith, p.0); text_is = refl }
    (listed (IsTextOf IsCall call_text) IsCall call_text (λ a v. (v, refl)) calls (λ xs. Joins (WordText (codes "\n")) (λ _. IsNothing xs)) calls (codes "\n") p.1 (last_word (codes "\n") calls))))

-- ---- a point

abbrev made_listed : ℕ → ℕ → List (List ℕ) → Listed
made_listed profit time tours = record { point = record { profit = profit; time = time }; plan = tours }

abbrev PointSpelled : Listed → List ℕ → Type 0
PointSpelled =
    Joins (WordText (codes "point ")) (λ _. Joins (IsTextOf (AtMost U64) (ended_number (codes " "))) (λ profit. Joins (IsTextOf (AtMost U64) (ended_number (codes " "))) (λ time.
    Joins (IsTextOf (AtMost U64) (ended_number (codes "\n"))) (λ count. IsListThen count (IsTextOf IsCalls tour_text) (λ tours. IsNothing (made_listed profit time tours))))))

point_text_of : (x : Listed) (text : List ℕ) → PointSpelled x text → IsTextOf IsListed point_text x text
point_text_of x text j =
    let profit = j.spelled in
    let time = profit.spelled in
    let count = time.spelled in
    let l = listing IsCalls tour_text (λ a t p. p) count.key (λ tours. IsNothing (made_listed profit.key time.key tours)) x count.second count.spelled in
    let made : IsTextOf IsListed point_text (made_listed profit.key time.key l.items) text = (
      record { profit = omega (arith, profit.key_spelled.0); time = omega (arith, time.key_spelled.0); tours = (omega (arith, l.count, count.key_spelled.0), l.valid) },
      both j.joined j.key_spelled (both profit.joined profit.key_spelled.1 (both time.joined time.key_spelled.1
          (both count.joined (count.key_spelled.1 ∙ ap (ended_number (codes "\n")) (sym l.count)) (both l.joined refl l.under.1 ∙ append-nil (flat_map tour_text l.items))))),
    ) in
    subst (λ (y : Listed). IsTextOf IsListed point_text y text) (sym l.under.0) made

pub point_reads : Reads (IsTextOf IsListed point_text) NoByte point_at
unfolding point_at
point_reads =
    texts_read IsListed point_text
    (bind_reads (word_reads (codes "point "))
    (λ _. bind_reads (spaced_reads U64 (omega arith))
    (λ profit. bind_reads (spaced_reads U64 (omega arith))
    (λ time. bind_reads (lined_reads U64 (omega arith))
    (λ count. list_reads tour_reads (λ a text rest p b behind e none. none) count (λ tours. IsNothing (made_listed profit time tours)) (λ tours bytes. Ok (made_listed profit time tours, bytes))
    (λ tours. nothing_reads NoByte (made_listed profit time tours)) (free _))
    (free _))
    (free _))
    (free _))
    (free _))
    point_text_of
    (λ x p. join tt (codes "point ") _ refl
    (join x.point.profit (ended_number (codes " ") x.point.profit) _ (omega (arith, p.profit), refl)
    (join x.point.time (ended_number (codes " ") x.point.time) _ (omega (arith, p.time), refl)
    (join (length x.plan) (ended_number (codes "\n") (length x.plan)) (flat_map tour_text x.plan) (omega (arith, p.tours.0), refl)
    (subst (IsListThen (length x.plan) (IsTextOf IsCalls tour_text) (λ tours. IsNothing (made_listed x.point.profit x.point.time tours)) x) (append-nil (flat_map tour_text x.plan))
    (listed (IsTextOf IsCalls tour_text) IsCalls tour_text (λ a v. (v, refl)) x.plan (λ tours. IsNothing (made_listed x.point.profit x.point.time tours)) x [] p.tours.1 (refl, refl)))))))
