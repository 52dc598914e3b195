-- Where a length stands in the table.
use Rattle.std.proofs.Common.{◌≡◌, ℕ, zero, suc, ◌+◌, ◌*◌, ◌<◌, ◌≤◌, List, [], ◌∷◌, ◌++◌, length, get_or, ap, ◌∙◌, arith, length-append}
use Rattle.std.specs.List.{flat_map}
use Rattle.std.proofs.Math.Nat.{mul-le-mul_left}
use Rattle.std.proofs.lemmas.List.{get_or-map, get_or-append-add, get_or_append_left, length-map}
use Rattle.orienteering.specs.Instance.{Problem, travel, distance, nowhere}
use Rattle.site_model.specs.Table.{lengths_from, length_table}
use Rattle.orienteering.specs.declared.Place.{Place}

length-rows : (f : Place → List ℕ) (n : ℕ) → ((a : Place) → length (f a) ≡ n) → (xs : List Place) → length (flat_map f xs) ≡ length xs * n
length-rows f n same [] = omega arith
length-rows f n same (x ∷ xs) = length-append (f x) (flat_map f xs) ∙ grind (arith, same x, length-rows f n same xs)

at-row : (f : Place → List ℕ) (n : ℕ) → ((a : Place) → length (f a) ≡ n) → (xs : List Place) (d : Place) (i j e : ℕ) → i < length xs → j < n → get_or (flat_map f xs) (i * n + j) e ≡ get_or (f (get_or xs i d)) j e
at-row f n same [] d i j e lt within = absurd (omega arith)
at-row f n same (x ∷ xs) d zero j e lt within =
    let place : 0 * n + j ≡ j = omega arith in
    ap (λ (k : ℕ). get_or (f x ++ flat_map f xs) k e) place ∙ get_or_append_left (f x) (flat_map f xs) e j (omega (arith, same x))
at-row f n same (x ∷ xs) d (suc i) j e lt within =
    let place : suc i * n + j ≡ length (f x) + (i * n + j) = grind (arith, same x) in
    ap (λ (k : ℕ). get_or (f x ++ flat_map f xs) k e) place ∙ get_or-append-add (f x) (flat_map f xs) (i * n + j) e ∙ at-row f n same xs d i j e (omega arith) within

row-length : (scale : ℕ) (places : List Place) (a : Place) → length (lengths_from scale places a) ≡ length places
row-length scale places a = length-map places (distance scale a)

pub length-table : (scale : ℕ) (places : List Place) → length (length_table scale places) ≡ length places * length places
unfolding length_table
length-table scale places = length-rows (lengths_from scale places) (length places) (row-length scale places) places

pub at-table : (p : Problem) (i j e : ℕ) → i < length p.sites → j < length p.sites → get_or (length_table p.scale p.sites) (i * length p.sites + j) e ≡ travel p i j
unfolding length_table travel
at-table p i j e lt within =
    at-row (lengths_from p.scale p.sites) (length p.sites) (row-length p.scale p.sites) p.sites nowhere i j e lt within
    ∙ get_or-map (distance p.scale (get_or p.sites i nowhere)) p.sites j nowhere e within

pub within-table : (n i j : ℕ) → i < n → j < n → i * n + j < n * n
within-table n i j lt within = let rows = mul-le-mul_left n (let le : i + 1 ≤ n = omega arith in le) in grind (arith, rows)
