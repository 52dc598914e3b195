-- The laws of critical calls by numbers below 64: those of `critical_laws`, since these numbers are below 320 too.
use Rattle.std.specs.Prelude.{◌≡◌, ℕ, ◌<◌, nat_eq, nat_lt, if◌then◌else◌, List, [], ◌∷◌, Option, None, Some, refl}
use Rattle.std.specs.List.{AllByRecursion}
use Rattle.std.proofs.Common.{subst, arith}
use Rattle.std.proofs.lemmas.Bool.{cond_both}
use Rattle.std.proofs.lemmas.Option.{same_Some}
use Rattle.bit_sets.specs.NumberSet.{IsSmall, inserted}
use Rattle.label_core.specs.Resource.{Laws}
use Rattle.label_core.specs.Critical.{critical_after, critical_rules, IsCritical, IsMark}
use Rattle.label_core.specs.CriticalLaws.{critical_laws, marks}
use Rattle.label_core.specs.Flags.{IsFlags, IsFlag}

small_from_low : (xs : List ℕ) → AllByRecursion (λ x. x < 64) xs → IsSmall xs
small_from_low [] h = tt
small_from_low (x ∷ xs) h = (omega (arith, h.0), small_from_low xs h.1)

pub critical_from_flags : (held : List ℕ) → IsFlags held → IsCritical held
critical_from_flags held f = record { rising = f.rising; small = small_from_low held f.low }

pub mark_from_flag : (number : Option ℕ) → IsFlag number → IsMark number
mark_from_flag number s n is = omega (arith, s n is)

-- a number below 64 added to others
pub low-inserted : (x : ℕ) (xs : List ℕ) → x < 64 → AllByRecursion (λ y. y < 64) xs → AllByRecursion (λ y. y < 64) (inserted x xs)
low-inserted x [] low h = (low, tt)
low-inserted x (y ∷ ys) low h =
    cond_both (nat_lt x y) (x ∷ y ∷ ys) (if nat_eq x y then y ∷ ys else y ∷ inserted x ys) (AllByRecursion (λ z. z < 64))
    (λ _. (low, h))
    (λ _. cond_both (nat_eq x y) (y ∷ ys) (y ∷ inserted x ys) (AllByRecursion (λ z. z < 64)) (λ _. h) (λ _. (h.0, low-inserted x ys low h.1)))

low_after : (a : List ℕ) (flag : Option ℕ) (a' : List ℕ) → IsFlags a → IsFlag flag → critical_after a flag ≡ Some a' → AllByRecursion (λ x. x < 64) a'
low_after a None a' f s e = subst (AllByRecursion (λ x. x < 64)) (same_Some _ _ e) f.low
low_after a (Some number) a' f s e =
    let m = marks a number a' e in
    subst (AllByRecursion (λ x. x < 64)) m.added (low-inserted number a (s number refl) f.low)

fits_after : (a : List ℕ) (flag : Option ℕ) (a' : List ℕ) → IsFlags a → IsFlag flag → critical_after a flag ≡ Some a' → IsFlags a'
fits_after a flag a' f s e =
    let c = critical_laws.fits a flag a' (critical_from_flags a f) (mark_from_flag flag s) e in
    record { rising = c.rising; low = low_after a flag a' f s e }

pub flags_laws : Laws critical_rules IsFlags IsFlag
flags_laws = record {
  reflexive = λ a f. critical_laws.reflexive a (critical_from_flags a f);
  transitive = λ a b c f g h p q.
      critical_laws.transitive a b c (critical_from_flags a f) (critical_from_flags b g) (critical_from_flags c h) p q;
  antisymmetric = λ a b f g p q. critical_laws.antisymmetric a b (critical_from_flags a f) (critical_from_flags b g) p q;
  extends = λ a b flag b' f g s p e.
      critical_laws.extends a b flag b' (critical_from_flags a f) (critical_from_flags b g) (mark_from_flag flag s) p e;
  fits = fits_after;
}
