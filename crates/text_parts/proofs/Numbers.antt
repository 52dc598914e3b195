-- Numbers in digits: the reading finds the longest spelling of a number that is at most the greatest one.
use Rattle.std.proofs.Common.{◌≡◌, ℕ, zero, suc, ◌+◌, ◌-◌, ◌*◌, ◌/◌, ◌%◌, ◌^◌, ◌<◌, ◌≤◌, Bool, true, false, cond, eqb, ◌&&◌, List, [], ◌∷◌, ◌++◌, length, get_or, Result, Ok, Err, refl, sym, ap, subst, ◌∙◌, inl, inr, append_assoc, arith, ℤ, pos, negsuc}
use Rattle.std.specs.Prelude.{nat_le, decimal}
use Rattle.std.specs.Int.{is_in_range}
use Rattle.std.proofs.lemmas.Bool.Decides.{nat_tests}
use Rattle.std.proofs.lemmas.Fmt.{decimal_digit, decimal_step, decimal_by_steps, first_decimal, decimal_nonempty}
use Rattle.std.proofs.lemmas.List.{append-nil}
use Rattle.text_parts.specs.Stops.{Stops}
use Rattle.text_parts.specs.Reading.{Reading, mapped, word_at, digits_after, positive_at, number_at, signed_at}
use Rattle.text_parts.specs.Texts.{WordText, IsDigit, NumberText, SignedText}
use Rattle.text_parts.specs.Reads.{IsSpelling, StartsOutside, Found, Reads, NoByte}
use Rattle.text_parts.proofs.Laws.{ok_value}
use Rattle.text_parts.proofs.Lists.{reads_same}
use Rattle.text_parts.proofs.Parts.{chosen, word_reads, IsNothing, nothing_reads, IsMapped, mapped_reads, StartsOther, IsOnByte, on_byte_reads}

-- ---- the value of digits

abbrev pub AreDigits : List ℕ → Type 0
AreDigits [] = Unit {0}
AreDigits (b ∷ ds) = IsDigit b × AreDigits ds

-- the number whose digits are those of n and then these
abbrev pub value_from : ℕ → List ℕ → ℕ
value_from n [] = n
value_from n (b ∷ ds) = value_from (10 * n + (b - 48)) ds

AreDigits-append : (xs ys : List ℕ) → AreDigits xs → AreDigits ys → AreDigits (xs ++ ys)
AreDigits-append [] ys p q = q
AreDigits-append (x ∷ xs) ys p q = (p.0, AreDigits-append xs ys p.1 q)

AreDigits-behind : (xs ys : List ℕ) → AreDigits (xs ++ ys) → AreDigits ys
AreDigits-behind [] ys p = p
AreDigits-behind (x ∷ xs) ys p = AreDigits-behind xs ys p.1

value_from-append : (n : ℕ) (xs ys : List ℕ) → value_from n (xs ++ ys) ≡ value_from (value_from n xs) ys
value_from-append n [] ys = refl
value_from-append n (x ∷ xs) ys = value_from-append (10 * n + (x - 48)) xs ys

value_from-grows : (n : ℕ) (ds : List ℕ) → n ≤ value_from n ds
value_from-grows n [] = omega arith
value_from-grows n (d ∷ ds) = omega (arith, value_from-grows (10 * n + (d - 48)) ds)

pub record IsDecimalOf (n : ℕ) (ds : List ℕ) : Type 0 where
  pub digits : AreDigits ds
  pub value : value_from 0 ds ≡ n

one_digit : (n : ℕ) → n < 10 → IsDecimalOf n ((48 + n) ∷ [])
one_digit n lt = record { digits = ((omega arith, omega arith), tt); value = omega arith }

more_digits : (n : ℕ) (ds : List ℕ) → 10 ≤ n → IsDecimalOf (n / 10) ds → IsDecimalOf n (ds ++ ((48 + n % 10) ∷ []))
more_digits n ds le p = record {
  digits = AreDigits-append ds ((48 + n % 10) ∷ []) p.digits ((omega arith, omega arith), tt);
  value = value_from-append 0 ds ((48 + n % 10) ∷ []) ∙ rw p.value (omega arith);
}

pub decimal_value : (n : ℕ) → n < 2 ^ 64 → IsDecimalOf n (decimal n)
decimal_value = decimal_by_steps IsDecimalOf one_digit more_digits

-- one more digit behind a number that isn't 0
decimal_push : (n b : ℕ) → 0 < n → IsDigit b → 10 * n + (b - 48) < 2 ^ 64 → decimal (10 * n + (b - 48)) ≡ decimal n ++ b ∷ []
decimal_push n b p d lt =
    let m = 10 * n + (b - 48) in
    let front : m / 10 ≡ n = omega arith in
    let last : 48 + m % 10 ≡ b = omega arith in
    decimal_step m (omega arith) lt ∙ rw (front, last) refl

-- a spelling that goes on behind the digits of a number is of a greater one
pub record GoesOn (m n b : ℕ) : Type 0 where
  pub digit : IsDigit b
  pub value : 10 * n + (b - 48) ≤ m

decimal_goes_on : (m n b : ℕ) (tail : List ℕ) → m < 2 ^ 64 → n < 2 ^ 64 → decimal m ≡ decimal n ++ b ∷ tail → GoesOn m n b
decimal_goes_on m n b tail ml nl e =
    let whole = decimal_value m ml in
    let front = decimal_value n nl in
    let digits : AreDigits (decimal n ++ b ∷ tail) = subst AreDigits e whole.digits in
    let value : value_from (10 * n + (b - 48)) tail ≡ m =
    sym (ap (λ (x : ℕ). value_from (10 * x + (b - 48)) tail) front.value) ∙ sym (value_from-append 0 (decimal n) (b ∷ tail)) ∙ ap (value_from 0) (sym e) ∙ whole.value in
    record { digit = (AreDigits-behind (decimal n) (b ∷ tail) digits).0; value = omega (arith, value_from-grows (10 * n + (b - 48)) tail) }

-- the first byte of a number that isn't 0
pub record FirstDigit (n : ℕ) : Type 0 where
  pub byte : ℕ
  pub behind : List ℕ
  pub text_is : decimal n ≡ byte ∷ behind
  pub low : 49 ≤ byte
  pub high : byte ≤ 57
  pub digits : AreDigits behind
  pub value : value_from (byte - 48) behind ≡ n

pub first_digit : (n : ℕ) → 0 < n → n < 2 ^ 64 → FirstDigit n
first_digit n p lt = by_text (decimal n) refl (decimal_value n lt) (first_decimal n p lt) (decimal_nonempty n lt)
  where
    by_text : (ds : List ℕ) → ds ≡ decimal n → IsDecimalOf n ds → 48 < get_or ds 0 0 → 0 < length ds → FirstDigit n
    by_text [] e d f l = absurd (omega arith)
    by_text (b ∷ ds) e d f l = record {
      byte = b;
      behind = ds;
      text_is = sym e;
      low = omega arith;
      high = d.digits.0.1;
      digits = d.digits.1;
      value = ap (λ (x : ℕ). value_from x ds) (omega arith) ∙ d.value;
    }

-- ---- the digits behind a number

abbrev fits_on : ℕ → ℕ → ℕ → Bool
fits_on max n b = is_in_range 48 57 b && nat_le (10 * n + (b - 48)) max

fits_true : (max n b : ℕ) → fits_on max n b ≡ true → (48 ≤ b) × (b ≤ 57) × (10 * n + (b - 48) ≤ max)
fits_true max n b e = grind (arith, nat_tests)

fits_false : (max n b : ℕ) → fits_on max n b ≡ false → 48 ≤ b → b ≤ 57 → 10 * n + (b - 48) ≤ max → ⊥
fits_false max n b e lo hi le = grind (arith, nat_tests)

fits_is : (max n b : ℕ) → 48 ≤ b → b ≤ 57 → 10 * n + (b - 48) ≤ max → fits_on max n b ≡ true
fits_is max n b lo hi le = grind (arith, nat_tests)

fits_not : (max n b : ℕ) → (IsDigit b → ⊥) → fits_on max n b ≡ false
fits_not max n b other = by_test (fits_on max n b) refl
  where
    by_test : (t : Bool) → t ≡ fits_on max n b → fits_on max n b ≡ false
    by_test true e = let f = fits_true max n b (sym e) in absurd (other (f.0, f.1))
    by_test false e = sym e

pub record DigitsBehind (max n : ℕ) (bytes : List ℕ) (m : ℕ) (rest : List ℕ) : Type 0 where
  pub digits : List ℕ
  pub text_is : decimal m ≡ decimal n ++ digits
  pub splits : bytes ≡ digits ++ rest
  pub positive : 0 < m
  pub bounded : m ≤ max
  pub ends : (b : ℕ) (behind : List ℕ) → rest ≡ b ∷ behind → GoesOn max m b → ⊥

digits_found : (max n : ℕ) (bytes : List ℕ) (r : ℕ × List ℕ) → max < 2 ^ 64 → 0 < n → n ≤ max → digits_after max n bytes ≡ r → DigitsBehind max n bytes r.0 r.1
unfolding digits_after
digits_found max n [] r lt p le e =
    subst (λ (x : ℕ × List ℕ). DigitsBehind max n [] x.0 x.1) e
    record { digits = []; text_is = sym (append-nil (decimal n)); splits = refl; positive = p; bounded = le; ends = λ b behind e g. absurd cc }
digits_found max n (b ∷ bytes) r lt p le e =
    elim (chosen (fits_on max n b) (digits_after max (10 * n + (b - 48)) bytes) (n, b ∷ bytes) r e) [
      | inl c ↦
          let f = fits_true max n b c.0 in
          let d = digits_found max (10 * n + (b - 48)) bytes r lt (omega arith) f.2 c.1 in
          record {
            digits = b ∷ d.digits;
            text_is = d.text_is ∙ ap (λ (x : List ℕ). x ++ d.digits) (decimal_push n b p (f.0, f.1) (omega arith)) ∙ append_assoc (decimal n) (b ∷ []) d.digits;
            splits = ap (λ (x : List ℕ). b ∷ x) d.splits;
            positive = d.positive;
            bounded = d.bounded;
            ends = d.ends;
          }
      | inr c ↦
          subst (λ (x : ℕ × List ℕ). DigitsBehind max n (b ∷ bytes) x.0 x.1) c.1
          record {
            digits = [];
            text_is = sym (append-nil (decimal n));
            splits = refl;
            positive = p;
            bounded = le;
            ends = λ d behind starts g. let same : d ≡ b = cc in fits_false max n b c.0 (omega (arith, g.digit)) (omega (arith, g.digit)) (omega (arith, g.value));
          }
    ]

digits_again : (max n : ℕ) (ds rest : List ℕ) → AreDigits ds → value_from n ds ≤ max → StartsOutside IsDigit rest → digits_after max n (ds ++ rest) ≡ (value_from n ds, rest)
unfolding digits_after
digits_again max n [] [] digits le outside = refl
digits_again max n [] (b ∷ rest) digits le outside = rw (fits_not max n b (outside b rest refl)) refl
digits_again max n (d ∷ ds) rest digits le outside =
    let m = 10 * n + (d - 48) in
    rw (fits_is max n d digits.0.0 digits.0.1 (omega (arith, value_from-grows m ds))) (digits_again max m ds rest digits.1 le outside)

-- ---- numbers that aren't 0

pub record IsPositive (max n : ℕ) (text : List ℕ) : Type 0 where
  pub positive : 0 < n
  pub bounded : n ≤ max
  pub text_is : text ≡ decimal n

abbrev starts_with : ℕ → ℕ → Bool
starts_with max b = is_in_range 49 57 b && nat_le (b - 48) max

starts_true : (max b : ℕ) → starts_with max b ≡ true → (49 ≤ b) × (b ≤ 57) × (b - 48 ≤ max)
starts_true max b e = grind (arith, nat_tests)

starts_false : (max b : ℕ) → starts_with max b ≡ false → 49 ≤ b → b ≤ 57 → b - 48 ≤ max → ⊥
starts_false max b e lo hi le = grind (arith, nat_tests)

starts_is : (max b : ℕ) → 49 ≤ b → b ≤ 57 → b - 48 ≤ max → starts_with max b ≡ true
starts_is max b lo hi le = grind (arith, nat_tests)

one_byte : (b : ℕ) → 49 ≤ b → b ≤ 57 → decimal (b - 48) ≡ b ∷ []
one_byte b lo hi = decimal_digit (b - 48) (omega arith) ∙ ap (λ (x : ℕ). x ∷ []) (omega arith)

module _ (max : ℕ) (small : max < 2 ^ 64) where
  no_longer : (m n b : ℕ) (tail text : List ℕ) → n ≤ max → text ≡ decimal n → (GoesOn max n b → ⊥) → IsPositive max m (text ++ b ∷ tail) → ⊥
  no_longer m n b tail text le is ends p =
      let g = decimal_goes_on m n b tail (omega (arith, p.bounded)) (omega arith) (sym p.text_is ∙ ap (λ (x : List ℕ). x ++ b ∷ tail) is) in
      ends record { digit = g.digit; value = omega (arith, g.value, p.bounded) }

  positive_found : (bytes rest : List ℕ) (n : ℕ) → positive_at max bytes ≡ Ok (n, rest) → Found (IsPositive max) bytes n rest
  unfolding positive_at
  positive_found [] rest n e = absurd cc
  positive_found (b ∷ bytes) rest n e =
      elim (chosen (starts_with max b) (Ok (digits_after max (b - 48) bytes)) (Err (suc (length bytes))) (Ok (n, rest)) e) [
        | inl c ↦
            let f = starts_true max b c.0 in
            let both = ok_value (digits_after max (b - 48) bytes).0 n (digits_after max (b - 48) bytes).1 rest c.1 in
            let d = digits_found max (b - 48) bytes (digits_after max (b - 48) bytes) small (omega arith) f.2 refl in
            let text_is : decimal (digits_after max (b - 48) bytes).0 ≡ b ∷ d.digits = d.text_is ∙ ap (λ (x : List ℕ). x ++ d.digits) (one_byte b f.0 f.1) in
            record {
              text = b ∷ d.digits;
              spelled = record { positive = omega (arith, d.positive, both.0); bounded = omega (arith, d.bounded, both.0); text_is = sym text_is ∙ ap decimal both.0 };
              splits = ap (λ (x : List ℕ). b ∷ x) (d.splits ∙ ap (λ (x : List ℕ). d.digits ++ x) both.1);
              ends = λ c behind tail m starts p. no_longer m (digits_after max (b - 48) bytes).0 c tail (b ∷ d.digits) d.bounded (sym text_is) (d.ends c behind (both.1 ∙ starts)) p;
            }
        | inr c ↦ let h = c.1 in absurd cc
      ]

  positive_again : (n : ℕ) (text rest : List ℕ) → IsPositive max n text → StartsOutside IsDigit rest → positive_at max (text ++ rest) ≡ Ok (n, rest)
  unfolding positive_at
  positive_again n text rest p outside =
      let f = first_digit n p.positive (omega (arith, p.bounded)) in
      let front : text ++ rest ≡ f.byte ∷ (f.behind ++ rest) = ap (λ (x : List ℕ). x ++ rest) (p.text_is ∙ f.text_is) in
      let test = starts_is max f.byte f.low f.high (omega (arith, p.bounded, f.value, value_from-grows (f.byte - 48) f.behind)) in
      let others = digits_again max (f.byte - 48) f.behind rest f.digits (omega (arith, f.value, p.bounded)) outside in
      ap (positive_at max) front ∙ rw (test, others, f.value) refl

  -- the first byte of a positive number passes the test
  starts_right : (n : ℕ) (b : ℕ) (tail : List ℕ) → IsPositive max n (b ∷ tail) → starts_with max b ≡ false → ⊥
  starts_right n b tail p test =
      let f = first_digit n p.positive (omega (arith, p.bounded)) in
      let same : b ≡ f.byte = let h = p.text_is in let k = f.text_is in cc in
      starts_false max b test (omega (arith, same, f.low)) (omega (arith, same, f.high)) (omega (arith, same, p.bounded, f.value, value_from-grows (f.byte - 48) f.behind))

  positive_nonempty : (n : ℕ) (text behind : List ℕ) → IsPositive max n text → [] ≡ text ++ behind → ⊥
  positive_nonempty n text behind p e =
      let f = first_digit n p.positive (omega (arith, p.bounded)) in
      let front : text ++ behind ≡ f.byte ∷ (f.behind ++ behind) = ap (λ (x : List ℕ). x ++ behind) (p.text_is ∙ f.text_is) in
      cc

  one_positive : 1 ≤ max → IsPositive max 1 (49 ∷ [])
  one_positive room = record { positive = omega arith; bounded = room; text_is = sym (decimal_digit 1 (omega arith)) }

  positive_stopped : 1 ≤ max → (bytes : List ℕ) (left : ℕ) → positive_at max bytes ≡ Err left → Stops (IsSpelling (IsPositive max)) bytes left
  unfolding positive_at
  positive_stopped room [] left e = record {
    good = [];
    bad = [];
    splits = refl;
    left_is = cc;
    next = 49;
    more = [];
    begins = (1, one_positive room);
    ends = λ b behind tail starts p. absurd cc;
    none = λ text behind p split. positive_nonempty p.0 text behind p.1 split;
  }
  positive_stopped room (b ∷ bytes) left e =
      elim (chosen (starts_with max b) (Ok (digits_after max (b - 48) bytes)) (Err (suc (length bytes))) (Err left) e) [
        | inl c ↦ let h = c.1 in absurd cc
        | inr c ↦ record {
          good = [];
          bad = b ∷ bytes;
          splits = refl;
          left_is = let h = c.1 in cc;
          next = 49;
          more = [];
          begins = (1, one_positive room);
          ends = λ d behind tail starts p. starts_right p.0 d tail p.1 (let same : b ≡ d = cc in subst (λ (x : ℕ). starts_with max x ≡ false) same c.0);
          none = λ text behind p split.
              let f = first_digit p.0 p.1.positive (omega (arith, p.1.bounded)) in
              let same : b ≡ f.byte = let h : text ++ behind ≡ f.byte ∷ (f.behind ++ behind) = ap (λ (x : List ℕ). x ++ behind) (p.1.text_is ∙ f.text_is) in cc in
              starts_right p.0 f.byte f.behind (subst (IsPositive max p.0) (p.1.text_is ∙ f.text_is) p.1) (subst (λ (x : ℕ). starts_with max x ≡ false) same c.0);
        }
      ]

  pub positive_bounds : (bytes rest : List ℕ) (n : ℕ) → positive_at max bytes ≡ Ok (n, rest) → (0 < n) × (n ≤ max)
  positive_bounds bytes rest n e = let p = (positive_found bytes rest n e).spelled in (p.positive, p.bounded)

  pub positive_reads : 1 ≤ max → Reads (IsPositive max) IsDigit (positive_at max)
  positive_reads room = record {
    found = positive_found;
    again = positive_again;
    stopped = positive_stopped room;
    some_value = 1;
    some_text = 49 ∷ [];
    some_spelled = one_positive room;
  }

-- ---- numbers, and numbers with a sign

zero_text : decimal 0 ≡ 48 ∷ []
zero_text = decimal_digit 0 (omega arith)

pub respelled : {A : Type 0} {Was : A → List ℕ → Type 0} {More : ℕ → Type 0} {read : Reading A} (Is : A → List ℕ → Type 0) → Reads Was More read → ((a : A) (text : List ℕ) → Was a text → Is a text) → ((a : A) (text : List ℕ) → Is a text → Was a text) → Reads Is More read
respelled Is laws to from = record {
  found = λ bytes rest a e. let f = laws.found bytes rest a e in record {
    text = f.text;
    spelled = to a f.text f.spelled;
    splits = f.splits;
    ends = λ b behind tail c starts p. f.ends b behind tail c starts (from c (f.text ++ b ∷ tail) p);
  };
  again = λ a text rest p outside. laws.again a text rest (from a text p) outside;
  stopped = λ bytes left e. let s = laws.stopped bytes left e in record {
    good = s.good;
    bad = s.bad;
    splits = s.splits;
    left_is = s.left_is;
    next = s.next;
    more = s.more;
    begins = (s.begins.0, to s.begins.0 (s.good ++ s.next ∷ s.more) s.begins.1);
    ends = λ b behind tail starts p. s.ends b behind tail starts (p.0, from p.0 (s.good ++ b ∷ tail) p.1);
    none = λ text behind p split. s.none text behind (p.0, from p.0 text p.1) split;
  };
  some_value = laws.some_value;
  some_text = laws.some_text;
  some_spelled = to laws.some_value laws.some_text laws.some_spelled;
}

positive_starts : (max : ℕ) → max < 2 ^ 64 → (n : ℕ) (text : List ℕ) → IsPositive max n text → StartsOther 48 text
positive_starts max small n text p =
    let f = first_digit n p.positive (omega (arith, p.bounded)) in
    record { byte = f.byte; behind = f.behind; text_is = p.text_is ∙ f.text_is; other = λ e. omega (arith, f.low, e) }

to_number : (max n : ℕ) (text : List ℕ) → IsOnByte 48 (IsNothing 0) (IsPositive max) n text → NumberText max n text
to_number max n text (inl w) = record { bounded = omega (arith, w.spelled.0); text_is = w.text_is ∙ ap (λ (x : List ℕ). 48 ∷ x) w.spelled.1 ∙ sym zero_text ∙ ap decimal (sym w.spelled.0) }
to_number max n text (inr p) = record { bounded = p.bounded; text_is = p.text_is }

from_number : (max n : ℕ) (text : List ℕ) → NumberText max n text → IsOnByte 48 (IsNothing 0) (IsPositive max) n text
from_number max zero text p = inl record { behind = []; text_is = p.text_is ∙ zero_text; spelled = (refl, refl) }
from_number max (suc n) text p = inr record { positive = omega arith; bounded = p.bounded; text_is = p.text_is }

some_number_reads : (max : ℕ) → 1 ≤ max → max < 2 ^ 64 → Reads (NumberText max) IsDigit (number_at max)
unfolding number_at
some_number_reads max room small =
    respelled (NumberText max) (on_byte_reads 48 (nothing_reads IsDigit 0) (positive_reads max small room) (positive_starts max small)) (to_number max) (from_number max)

-- the only number is 0
abbrev zero_at : Reading ℕ
zero_at = mapped (λ _. 0) (word_at (48 ∷ []))

not_positive : (b : ℕ) (t : Bool) → t ≡ starts_with 0 b → t ≡ false
not_positive b true e = let f = starts_true 0 b (sym e) in absurd (omega arith)
not_positive b false e = refl

alike : (t : Bool) (bytes : List ℕ) (left : ℕ) → ◌≡◌ {A = Result (ℕ × List ℕ) ℕ} (cond t (Ok (0, bytes)) (Err left)) (mapped {A = Unit {0}} (λ _. 0) (λ _. cond t (Ok (tt, bytes)) (Err left)) bytes)
alike true bytes left = refl
alike false bytes left = refl

number_at_zero : (bytes : List ℕ) → number_at 0 bytes ≡ zero_at bytes
unfolding number_at word_at positive_at
number_at_zero [] = refl
number_at_zero (b ∷ bytes) = rw (not_positive b (starts_with 0 b) refl) (alike (eqb b 48) bytes (suc (length bytes)))

to_zero : (n : ℕ) (text : List ℕ) → IsMapped (λ _. 0) (WordText (48 ∷ [])) n text → NumberText 0 n text
to_zero n text m = record { bounded = omega (arith, m.value_is); text_is = m.spelled ∙ sym zero_text ∙ ap decimal (sym m.value_is) }

from_zero : (n : ℕ) (text : List ℕ) → NumberText 0 n text → IsMapped (λ _. 0) (WordText (48 ∷ [])) n text
from_zero n text p =
    let nothing : n ≡ 0 = omega (arith, p.bounded) in
    record { of = tt; value_is = nothing; spelled = p.text_is ∙ ap decimal nothing ∙ zero_text }

-- a reading of which nothing can go on is one of which a byte of the set may
wider : {A : Type 0} {Spells : A → List ℕ → Type 0} {read : Reading A} (More : ℕ → Type 0) → Reads Spells NoByte read → Reads Spells More read
wider More laws = record {
  found = laws.found;
  again = λ a text rest p outside. laws.again a text rest p (λ b behind e none. none);
  stopped = laws.stopped;
  some_value = laws.some_value;
  some_text = laws.some_text;
  some_spelled = laws.some_spelled;
}

zero_reads : Reads (NumberText 0) IsDigit (number_at 0)
zero_reads = reads_same (number_at 0) (wider IsDigit (respelled (NumberText 0) (mapped_reads (λ _. 0) (word_reads (48 ∷ []))) to_zero from_zero)) number_at_zero

pub number_reads : (max : ℕ) → max < 2 ^ 64 → Reads (NumberText max) IsDigit (number_at max)
number_reads zero small = zero_reads
number_reads (suc max) small = some_number_reads (suc max) (omega arith) small

pub number_bound : (max : ℕ) → max < 2 ^ 64 → (bytes rest : List ℕ) (n : ℕ) → number_at max bytes ≡ Ok (n, rest) → n ≤ max
number_bound max small bytes rest n e = ((number_reads max small).found bytes rest n e).spelled.bounded

abbrev minus : ℕ → ℤ
minus n = negsuc (n - 1)

to_signed : (z : ℤ) (text : List ℕ) → IsOnByte 45 (IsMapped minus (IsPositive (2 ^ 63))) (IsMapped pos (NumberText (2 ^ 63 - 1))) z text → SignedText z text
to_signed z text (inl w) =
    let n = w.spelled.of in
    let p = w.spelled.spelled in
    let made : SignedText (minus n) text = record {
      bounded = omega (arith, p.bounded, p.positive);
      text_is = w.text_is ∙ ap (λ (x : List ℕ). 45 ∷ x) p.text_is ∙ ap (λ (x : ℕ). 45 ∷ decimal x) (let h : n ≡ suc (n - 1) = omega (arith, p.positive) in h);
    } in
    subst (λ (x : ℤ). SignedText x text) (sym w.spelled.value_is) made
to_signed z text (inr m) =
    let made : SignedText (pos m.of) text = record { bounded = omega (arith, m.spelled.bounded); text_is = m.spelled.text_is } in
    subst (λ (x : ℤ). SignedText x text) (sym m.value_is) made

from_signed : (z : ℤ) (text : List ℕ) → SignedText z text → IsOnByte 45 (IsMapped minus (IsPositive (2 ^ 63))) (IsMapped pos (NumberText (2 ^ 63 - 1))) z text
from_signed (pos n) text p = inr record { of = n; value_is = refl; spelled = record { bounded = omega (arith, p.bounded); text_is = p.text_is } }
from_signed (negsuc n) text p = inl record {
  behind = decimal (suc n);
  text_is = p.text_is;
  spelled = record { of = suc n; value_is = ap negsuc (omega arith); spelled = record { positive = omega arith; bounded = omega (arith, p.bounded); text_is = refl } };
}

number_starts : (z : ℤ) (text : List ℕ) → IsMapped pos (NumberText (2 ^ 63 - 1)) z text → StartsOther 45 text
number_starts z text m = by_value m.of m.spelled
  where
    by_value : (n : ℕ) → NumberText (2 ^ 63 - 1) n text → StartsOther 45 text
    by_value zero p = record { byte = 48; behind = []; text_is = p.text_is ∙ zero_text; other = λ e. omega (arith, e) }
    by_value (suc n) p =
        let f = first_digit (suc n) (omega arith) (omega (arith, p.bounded)) in
        record { byte = f.byte; behind = f.behind; text_is = p.text_is ∙ f.text_is; other = λ e. omega (arith, f.low, e) }

pub signed_reads : Reads SignedText IsDigit signed_at
unfolding signed_at
signed_reads =
    respelled SignedText
    (on_byte_reads 45 (mapped_reads minus (positive_reads (2 ^ 63) (omega arith) (omega arith))) (mapped_reads pos (number_reads (2 ^ 63 - 1) (omega arith))) number_starts)
    to_signed from_signed
