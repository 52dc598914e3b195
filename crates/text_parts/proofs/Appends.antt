-- Texts that are put one behind the other.
use Rattle.std.proofs.Common.{◌≡◌, ℕ, List, ◌++◌, ap, ◌∙◌, append_assoc}

pub ruleset appends = (append_assoc)

-- five texts that were put one behind the other
pub appended5 : (o p q r s z a b c d e : List ℕ) → p ≡ o ++ a → q ≡ p ++ b → r ≡ q ++ c → s ≡ r ++ d → z ≡ s ++ e → z ≡ o ++ (a ++ (b ++ (c ++ (d ++ e))))
appended5 o p q r s z a b c d e f g h i j =
    let all : z ≡ ((((o ++ a) ++ b) ++ c) ++ d) ++ e =
    j ∙ ap (λ (x : List ℕ). x ++ e) (i ∙ ap (λ (x : List ℕ). x ++ d) (h ∙ ap (λ (x : List ℕ). x ++ c) (g ∙ ap (λ (x : List ℕ). x ++ b) f))) in
    all ∙ simp append_assoc
