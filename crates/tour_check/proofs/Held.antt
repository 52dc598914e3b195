-- A set that holds what a list holds, with one number more.
use Rattle.std.proofs.Common.{◌≡◌, ℕ, ◌+◌, ◌<◌, List, [], ◌∷◌, ◌++◌, length, take, get_or, Bool, true, false, refl, sym, ap, ◌∙◌, arith}
use Rattle.std.specs.Prelude.{nat_eq, ◌||◌}
use Rattle.std.specs.List.{list_any}
use Rattle.std.proofs.lemmas.List.{take_more}
use Rattle.std.proofs.lemmas.List.Folds.{list_any-append}
use Rattle.orienteering.specs.PlanCheck.{is_one_of}
use Rattle.bit_sets.specs.NumberSet.{member, inserted}
use Rattle.bit_sets.specs.NumberSetLaws.{member-inserted}
use Rattle.tour_check.specs.Seen.{HasSame}

or_turned : (a b : Bool) → (a || b) ≡ (b || (a || false))
or_turned true true = refl
or_turned true false = refl
or_turned false true = refl
or_turned false false = refl

pub held-inserted : (held seen : List ℕ) (x : ℕ) → HasSame held seen → HasSame (inserted x held) (seen ++ x ∷ [])
held-inserted held seen x same j =
    member-inserted x held j
    ∙ ap (λ b. nat_eq j x || b) (same j)
    ∙ or_turned (nat_eq j x) (is_one_of seen j)
    ∙ sym (list_any-append (nat_eq j) seen (x ∷ []))

pub held-next : (held tour : List ℕ) (k : ℕ) → k < length tour → HasSame held (take k tour) → HasSame (inserted (get_or tour k 0) held) (take (k + 1) tour)
held-next held tour k below same j =
    held-inserted held (take k tour) (get_or tour k 0) same j ∙ ap (λ xs. is_one_of xs j) (sym (take_more tour k 0 below))
