-- The laws of critical calls.
use Rattle.std.specs.Prelude.{◌≡◌, ℕ, true, false, nat_eq, List, Option, None, Some, refl}
use Rattle.std.proofs.Common.{sym, ap, ◌∙◌, arith, subst, ⊎_elim}
use Rattle.std.proofs.lemmas.Bool.{cond-true, cond-false, cases_Bool, false_from_ne_true, both_ways, or_cases, or_left, or_right}
use Rattle.std.proofs.lemmas.Option.{same_Some, none-some}
use Rattle.bit_sets.specs.NumberSet.{member, is_subset, inserted}
use Rattle.bit_sets.specs.NumberSetLaws.{subset_member, subset_from, subset_reflexive, subset_transitive, subset_antisymmetric, member-inserted, rises-inserted, small-inserted}
use Rattle.label_core.specs.Resource.{Laws, KeepsOrder}
use Rattle.label_core.specs.Critical.{critical_after, critical_rules, IsCritical, IsMark}

-- a number that is marked isn't held, and is added
pub record Marks (held : List ℕ) (number : ℕ) (after : List ℕ) : Type 0 where
  pub free : member number held ≡ false
  pub added : inserted number held ≡ after

pub marks : (held : List ℕ) (number : ℕ) (after : List ℕ) → critical_after held (Some number) ≡ Some after → Marks held number after
marks held number after e =
    ⊎_elim
    (λ is. absurd (none-some after (sym (cond-true (member number held) None (Some (inserted number held)) is) ∙ e)))
    (λ free. record { free = free; added = same_Some _ _ (sym (cond-false (member number held) None (Some (inserted number held)) free) ∙ e) })
    (cases_Bool (member number held))

-- a subset stays one when both get a number
subset-inserted : (xs ys : List ℕ) (number : ℕ) → is_subset xs ys ≡ true → is_subset (inserted number xs) (inserted number ys) ≡ true
subset-inserted xs ys number p =
    subset_from (inserted number xs) (inserted number ys)
    (λ z e. member-inserted number ys z ∙
    ⊎_elim
    (λ here. or_left (nat_eq z number) (member z ys) here)
    (λ later. or_right (nat_eq z number) (member z ys) (subset_member xs ys z p later))
    (or_cases (nat_eq z number) (member z xs) (sym (member-inserted number xs z) ∙ e)))

keeps_order : (a b : List ℕ) (mark : Option ℕ) (b' : List ℕ) → is_subset a b ≡ true → critical_after b mark ≡ Some b' → KeepsOrder critical_rules a b mark b'
keeps_order a b None b' p e = record { after = a; extends = refl; ordered = ap (is_subset a) (sym (same_Some _ _ e)) ∙ p }
keeps_order a b (Some number) b' p e =
    let m = marks b number b' e in
    let free : member number a ≡ false = false_from_ne_true _ (λ held. both_ways _ m.free (subset_member a b number p held)) in
    record {
      after = inserted number a;
      extends = cond-false (member number a) None (Some (inserted number a)) free;
      ordered = ap (is_subset (inserted number a)) (sym m.added) ∙ subset-inserted a b number p;
    }

fits_after : (a : List ℕ) (mark : Option ℕ) (a' : List ℕ) → IsCritical a → IsMark mark → critical_after a mark ≡ Some a' → IsCritical a'
fits_after a None a' f s e = subst IsCritical (same_Some _ _ e) f
fits_after a (Some number) a' f s e =
    let m = marks a number a' e in
    subst IsCritical m.added
    (record { rising = rises-inserted 0 number a (omega arith) f.rising; small = small-inserted number a (s number refl) f.small })

pub critical_laws : Laws critical_rules IsCritical IsMark
critical_laws = record {
  reflexive = λ a f. subset_reflexive a;
  transitive = λ a b c f g h p q. subset_transitive a b c p q;
  antisymmetric = λ a b f g p q. subset_antisymmetric 0 a b f.rising g.rising p q;
  extends = λ a b mark b' f g s p e. keeps_order a b mark b' p e;
  fits = fits_after;
}
