-- The digits of a number and their value.
use Rattle.std.proofs.Common.{◌≡◌, ℕ, zero, suc, ◌<◌, ◌^◌, List, [], ◌∷◌, length, get_or, true, false, eqb, arith, rules, Result}
use Rattle.std.specs.Str.{all_ascii_digits}
use Rattle.std.specs.Str.Parse.{digits_value, digits_value_after, ParsesUnsigned}
use Rattle.std.specs.Int.{IsInRange}
use Rattle.std.specs.Result.{OkIff}
use Rattle.std.proofs.lemmas.Str.Parse.{IsNumeralModel, numerals_by_fold, tells_all_ascii_digits, parse_digits}

pub digit-at : (ds : List ℕ) (i : ℕ) → all_ascii_digits ds ≡ true → i < length ds → IsInRange 48 57 (get_or ds i 0)
digit-at [] i h lt = absurd (omega arith)
digit-at (c ∷ cs) zero h lt = (tells_all_ascii_digits.parts c cs h).0
digit-at (c ∷ cs) (suc i) h lt = digit-at cs i (tells_all_ascii_digits.parts c cs h).1 (omega arith)

own : IsNumeralModel (λ ds. all_ascii_digits ds ≡ true) (digits_value 10)
own = numerals_by_fold _ tells_all_ascii_digits (digits_value_after 10) (search rules)

pub digits-parsed : {E : Type 0} → (bs : List ℕ) (r : Result ℕ E) → ParsesUnsigned 64 10 bs r → all_ascii_digits bs ≡ true → OkIff r ((0 < length bs) × (digits_value 10 bs < 2 ^ 64)) (digits_value 10 bs)
digits-parsed bs r h p = parse_digits own 64 bs r h p

pub some-length : (ds : List ℕ) → false ≡ eqb (length ds) 0 → 0 < length ds
some-length [] h = absurd cc
some-length (c ∷ cs) h = omega arith
