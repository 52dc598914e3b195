-- The longest front of bytes that begins a text.
use Rattle.std.proofs.Common.{◌≡◌, ℕ, zero, suc, ◌≤◌, List, [], ◌∷◌, ◌++◌, length, take, refl, sym, subst, arith}
use Rattle.std.proofs.lemmas.List.{length-append, take_at}
use Rattle.text_parts.specs.Stops.{Begins, IsLongestFront}

no_longer_front : (IsText : List ℕ → Type 0) (good bad : List ℕ) (n : ℕ) → ((b : ℕ) (behind tail : List ℕ) → bad ≡ b ∷ behind → IsText (good ++ b ∷ tail) → ⊥) → n ≤ length (good ++ bad) → Begins IsText (take n (good ++ bad)) → n ≤ length good
no_longer_front IsText [] [] n ends le p = le
no_longer_front IsText [] (b ∷ bad) zero ends le p = omega arith
no_longer_front IsText [] (b ∷ bad) (suc n) ends le p = absurd (ends b bad (take n bad ++ p.1) refl (subst IsText p.3 p.2))
no_longer_front IsText (g ∷ good) bad zero ends le p = omega arith
no_longer_front IsText (g ∷ good) bad (suc n) ends le p =
    let rest = no_longer_front (λ text. IsText (g ∷ text)) good bad n ends (omega arith) (take n (good ++ bad) ++ p.1, p.1, subst IsText p.3 p.2, refl) in
    omega arith

pub longest_front : (IsText : List ℕ → Type 0) (bytes good bad : List ℕ) → bytes ≡ good ++ bad → Begins IsText good → ((b : ℕ) (behind tail : List ℕ) → bad ≡ b ∷ behind → IsText (good ++ b ∷ tail) → ⊥) → IsLongestFront IsText bytes (length good)
longest_front IsText bytes good bad e begins ends =
    subst (λ (x : List ℕ). IsLongestFront IsText x (length good)) (sym e)
    record {
      within = omega (arith, length-append good bad);
      begins = subst (Begins IsText) (sym (take_at good bad (length good) refl)) begins;
      longest = λ n le p. no_longer_front IsText good bad n ends le p;
    }
