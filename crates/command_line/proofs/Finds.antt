-- The first element of which a test holds, from one place to the next.
use Rattle.std.proofs.Common.{◌≡◌, ◌∙◌, ℕ, ◌+◌, ◌<◌, ◌≤◌, Bool, true, false, cond, List, Some, None, length, get_or, drop, ap}
use Rattle.std.specs.List.{find}
use Rattle.std.proofs.lemmas.List.{at_drop_all, at_drop_more}

-- nothing is found before a place
abbrev pub FoundFrom : {X : Type 0} → (X → Bool) → List X → ℕ → Type 0
FoundFrom test xs i = find test xs ≡ find test (drop i xs)

pub found_later : {X : Type 0} (test : X → Bool) (xs : List X) (i : ℕ) (d : X) → i < length xs → FoundFrom test xs i
    → test (get_or xs i d) ≡ false → FoundFrom test xs (i + 1)
found_later test xs i d lt from fails =
    from ∙ (at_drop_more (find test) xs i d lt ∙ ap (λ b. cond b (Some (get_or xs i d)) (find test (drop (i + 1) xs))) fails)

pub found_here : {X : Type 0} (test : X → Bool) (xs : List X) (i : ℕ) (d : X) → i < length xs → FoundFrom test xs i
    → test (get_or xs i d) ≡ true → find test xs ≡ Some (get_or xs i d)
found_here test xs i d lt from holds =
    from ∙ (at_drop_more (find test) xs i d lt ∙ ap (λ b. cond b (Some (get_or xs i d)) (find test (drop (i + 1) xs))) holds)

pub found_nowhere : {X : Type 0} (test : X → Bool) (xs : List X) (i : ℕ) → length xs ≤ i → FoundFrom test xs i → find test xs ≡ None
found_nowhere test xs i past from = from ∙ at_drop_all (find test) xs i past
