-- What a cursor's call says, from the laws of the reading.
use Rattle.std.proofs.Common.{◌≡◌, ℕ, ◌+◌, ◌-◌, ◌≤◌, Bool, true, false, cond, eqb, List, [], ◌∷◌, ◌++◌, length, take, drop, Ok, Err, refl, sym, ap, subst, ◌∙◌, inl, inr, arith}
use Rattle.std.proofs.lemmas.Bool.{eqb-true, eqb-false}
use Rattle.std.proofs.lemmas.List.{append-nil, length-append, length-drop, drop-drop, drop_at, take_rest}
use Rattle.text_parts.specs.declared.stop.Stop.{Stop}
use Rattle.text_parts.specs.declared.stop.TextCause.TheVariants.{End, Syntax}
use Rattle.text_parts.specs.declared.stop.TextStop.{TextStop}
use Rattle.text_parts.specs.Gives.{IsPlaced}
use Rattle.text_parts.specs.Reading.{Reading}
use Rattle.text_parts.specs.Stops.{IsLongestFront}
use Rattle.text_parts.specs.Place.{Place, Moves, StopsAt, Continues}
use Rattle.text_parts.specs.Reads.{Reads, Found, IsSpelling}
use Rattle.text_parts.proofs.Laws.{overlap}
use Rattle.text_parts.proofs.Fronts.{longest_front}

abbrev pub place : List ℕ → ℕ → Place
place bytes at = record { bytes = bytes; at = at }

not_shorter : {A : Type 0} (Spells : A → List ℕ → Type 0) (bytes rest : List ℕ) (a : A) (f : Found Spells bytes a rest) (other tail : List ℕ) → IsSpelling Spells other → bytes ≡ other ++ tail → length other ≤ length f.text
not_shorter Spells bytes rest a f other tail p e =
    elim (overlap other tail f.text rest (sym e ∙ f.splits)) [
      | inl w ↦ longer w.middle w.long w.short
      | inr w ↦ omega (arith, ap length w.long, length-append other (w.next ∷ w.middle))
    ]
  where
    longer : (middle : List ℕ) → other ≡ f.text ++ middle → rest ≡ middle ++ tail → length other ≤ length f.text
    longer [] l s = omega (arith, ap length (l ∙ append-nil f.text))
    longer (c ∷ middle) l s = absurd (f.ends c (middle ++ tail) middle p.0 s (subst (Spells p.0) l p.1))

module _ {A : Type 0} {Spells : A → List ℕ → Type 0} {More : ℕ → Type 0} {read : Reading A} (laws : Reads Spells More read) (bytes : List ℕ) (at : ℕ) (within : at ≤ length bytes) where
  -- where the rest was found, it is the rest of the new place
  moved : (new : ℕ) (rest : List ℕ) (a : A) → read (take (length bytes - at) (drop at bytes)) ≡ Ok (a, rest) → new ≡ length bytes - length rest → Moves Spells (place bytes at) (place bytes new) a × (rest ≡ drop new bytes)
  moved new rest a e is =
      let f = laws.found (drop at bytes) rest a (ap read (sym (take_rest bytes at)) ∙ e) in
      let lengths : length bytes - at ≡ length f.text + length rest = sym (length-drop at bytes) ∙ ap length f.splits ∙ length-append f.text rest in
      let further : new ≡ at + length f.text = omega (arith, lengths, within) in
      let behind : rest ≡ drop new bytes = sym (drop_at f.text rest (length f.text) refl) ∙ ap (drop (length f.text)) (sym f.splits) ∙ drop-drop (length f.text) at bytes ∙ ap (λ (n : ℕ). drop n bytes) (sym further) in (
        record {
          text = f.text;
          spelled = f.spelled;
          bytes = refl;
          place = further;
          within = omega (arith, lengths, within, further);
          stands = f.splits ∙ ap (λ (x : List ℕ). f.text ++ x) behind;
          longest = λ other tail p split. not_shorter Spells (drop at bytes) rest a f other tail p split;
        },
        behind,
      )

  pub moves : (new : ℕ) (rest : List ℕ) (a : A) → read (take (length bytes - at) (drop at bytes)) ≡ Ok (a, rest) → new ≡ length bytes - length rest → Moves Spells (place bytes at) (place bytes new) a
  moves new rest a e is = (moved new rest a e is).0

  pub goes_on : (new : ℕ) (rest : List ℕ) (a : A) → read (take (length bytes - at) (drop at bytes)) ≡ Ok (a, rest) → new ≡ length bytes - length rest → Continues read (place bytes at) (place bytes new) (Ok a)
  goes_on new rest a e is =
      (refl, ap read (sym (take_rest bytes at)) ∙ e ∙ ap (λ (x : List ℕ). Ok (a, x)) (moved new rest a e is).1)

  pub stops : (stop : Stop) (placed : TextStop) → read (take (length bytes - at) (drop at bytes)) ≡ Err stop.left → IsPlaced (length bytes) stop placed → StopsAt (IsSpelling Spells) (place bytes at) (place bytes at) placed
  stops stop placed e is =
      let s = laws.stopped (drop at bytes) stop.left (ap read (sym (take_rest bytes at)) ∙ e) in
      let lengths : length bytes - at ≡ length s.good + stop.left = sym (length-drop at bytes) ∙ ap length s.splits ∙ length-append s.good s.bad ∙ ap (λ (n : ℕ). length s.good + n) s.left_is in
      let distance : length s.good ≡ placed.at - at = omega (arith, lengths, is.0, within) in
      record {
        stays = refl;
        none = λ text tail p split. s.none text tail p split;
        behind = omega (arith, lengths, is.0, within);
        within = omega (arith, is.0);
        front = subst (IsLongestFront (IsSpelling Spells) (drop at bytes)) distance
            (longest_front (IsSpelling Spells) (drop at bytes) s.good s.bad s.splits (s.good ++ s.next ∷ s.more, s.next ∷ s.more, s.begins, refl) s.ends);
        at_end = by_test (eqb stop.left 0) refl is.1 (omega (arith, lengths, within));
      }
    where
      by_test : (t : Bool) → t ≡ eqb stop.left 0 → placed.cause ≡ cond t End Syntax → stop.left ≤ length bytes → (placed.cause ≡ End → placed.at ≡ length bytes) × (placed.at ≡ length bytes → placed.cause ≡ End)
      by_test true t c le = let h = eqb-true stop.left 0 (sym t) in (λ _. omega (arith, is.0), λ _. c)
      by_test false t c le = let h = eqb-false stop.left 0 (sym t) in (λ x. absurd cc, λ x. absurd (h (omega (arith, is.0, le))))

  pub stays : (stop : Stop) (placed : TextStop) → read (take (length bytes - at) (drop at bytes)) ≡ Err stop.left → IsPlaced (length bytes) stop placed → Continues read (place bytes at) (place bytes at) (Err placed)
  stays stop placed e is =
      let s = laws.stopped (drop at bytes) stop.left (ap read (sym (take_rest bytes at)) ∙ e) in
      let lengths : length bytes - at ≡ length s.good + stop.left = sym (length-drop at bytes) ∙ ap length s.splits ∙ length-append s.good s.bad ∙ ap (λ (n : ℕ). length s.good + n) s.left_is in
      let left : stop.left ≡ length bytes - placed.at = omega (arith, is.0, lengths, within) in
      (refl, ap read (sym (take_rest bytes at)) ∙ e ∙ ap (λ (n : ℕ). Err n) left)
