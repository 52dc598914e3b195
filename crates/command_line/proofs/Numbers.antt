-- What std reads as a number is what `number_between` says.
use Rattle.std.proofs.Common.{◌≡◌, ℕ, ◌<◌, ◌≤◌, Bool, true, false, List, [], ◌∷◌, refl, Some, None, length, arith, nat_lt}
use Rattle.std.specs.List.{list_all}
use Rattle.std.specs.Char.{digit_value}
use Rattle.std.specs.Str.Parse.{IsNumeral, AllDigits, digits_value, without_leading_plus}
use Rattle.command_line.specs.Values.{is_numeral, number_between}

abbrev all_pass : List ℕ → Bool
all_pass ds = list_all (λ d. nat_lt (digit_value d) 10) ds

all_pass-true : (ds : List ℕ) → AllDigits 10 ds → all_pass ds ≡ true
all_pass-true [] h = refl
all_pass-true (d ∷ ds) h = let rest = all_pass-true ds h.1 in let first = h.0 in grind arith

pub is_numeral-true : (ds : List ℕ) → IsNumeral 10 ds → is_numeral ds ≡ true
is_numeral-true ds h = let digits = all_pass-true ds h.1 in let some = h.0 in grind arith

all_pass-sound : (ds : List ℕ) → all_pass ds ≡ true → AllDigits 10 ds
all_pass-sound [] h = tt
all_pass-sound (d ∷ ds) h =
    let first : digit_value d < 10 = grind arith in
    let rest : all_pass ds ≡ true = grind arith in
    (first, all_pass-sound ds rest)

pub is_numeral-sound : (ds : List ℕ) → is_numeral ds ≡ true → IsNumeral 10 ds
is_numeral-sound ds h =
    let some : 0 < length ds = grind arith in
    let digits : all_pass ds ≡ true = grind arith in
    (some, all_pass-sound ds digits)

pub number_between-some : (low high : ℕ) (text : List ℕ) (n : ℕ) → IsNumeral 10 (without_leading_plus text)
    → n ≡ digits_value 10 (without_leading_plus text) → low ≤ n → n ≤ high → Some n ≡ number_between low high text
number_between-some low high text n numeral is least most =
    let test = is_numeral-true (without_leading_plus text) numeral in grind arith

pub number_between-none : (low high : ℕ) (text : List ℕ)
    → ((IsNumeral 10 (without_leading_plus text) × (digits_value 10 (without_leading_plus text) ≤ high)) → ⊥)
    → None ≡ number_between low high text
number_between-none low high text unfit = go (is_numeral (without_leading_plus text)) refl
  where
    go : (b : Bool) → is_numeral (without_leading_plus text) ≡ b → None ≡ number_between low high text
    go false e = rw e refl
    go true e =
        let above : digits_value 10 (without_leading_plus text) ≤ high → ⊥ = λ h. unfit (is_numeral-sound (without_leading_plus text) e, h) in
        grind arith
