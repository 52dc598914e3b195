-- Sets of numbers, as lists in rising order.
use Rattle.std.specs.Prelude.{ℕ, ◌+◌, ◌<◌, ◌≤◌, Bool, nat_eq, nat_lt, if◌then◌else◌, List, [], ◌∷◌}
use Rattle.std.specs.Bool.{⊤}
use Rattle.std.specs.List.{AllByRecursion, list_any, list_all}

-- each number is above the one before it, and the first is at least the low end
abbrev pub RisesFrom : ℕ → List ℕ → Type 0
RisesFrom low [] = ⊤
RisesFrom low (x ∷ xs) = (low ≤ x) × RisesFrom (x + 1) xs

abbrev pub member : ℕ → List ℕ → Bool
member x xs = list_any (λ y. nat_eq x y) xs

abbrev pub is_subset : List ℕ → List ℕ → Bool
is_subset xs ys = list_all (λ x. member x ys) xs

-- the set with one more number
abbrev pub inserted : ℕ → List ℕ → List ℕ
inserted x [] = x ∷ []
inserted x (y ∷ ys) = if nat_lt x y then x ∷ y ∷ ys else (if nat_eq x y then y ∷ ys else y ∷ inserted x ys)

-- the numbers of both
abbrev pub united : List ℕ → List ℕ → List ℕ
united [] ys = ys
united (x ∷ xs) ys = inserted x (united xs ys)

-- each number is below 320
abbrev pub IsSmall : List ℕ → Type 0
IsSmall = AllByRecursion (λ x. x < 320)
