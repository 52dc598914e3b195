-- Elements of lists.
use Rattle.std.proofs.Common.{◌≡◌, ℕ, zero, suc, ◌<◌, List, [], ◌∷◌, length, get_or, map, refl, arith}
use Rattle.std.specs.List.{AllByRecursion}

pub AllByRecursion-at : {X : Type 0} (P : X → Type 0) (xs : List X) (i : ℕ) (d : X) → AllByRecursion P xs →
    i < length xs → P (get_or xs i d)
AllByRecursion-at P [] i d a h = absurd (omega arith)
AllByRecursion-at P (x ∷ xs) zero d a h = a.0
AllByRecursion-at P (x ∷ xs) (suc i) d a h = AllByRecursion-at P xs i d a.1 (omega arith)

pub get_or-map-within : {A B : Type 0} (f : A → B) (xs : List A) (i : ℕ) (a : A) (b : B) → i < length xs →
    get_or (map f xs) i b ≡ f (get_or xs i a)
get_or-map-within f [] i a b h = absurd (omega arith)
get_or-map-within f (x ∷ xs) zero a b h = refl
get_or-map-within f (x ∷ xs) (suc i) a b h = get_or-map-within f xs i a b (omega arith)
