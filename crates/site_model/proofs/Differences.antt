-- Differences of coordinates.
use Rattle.std.proofs.Common.{◌≡◌, ◌≤◌, ◌^◌, ℤ, ◌-ℤ◌, unsigned_abs, w64, SFits, to_z, of_z, arith}
use Rattle.std.proofs.lemmas.Int.{ints, to_z-of_z}

difference-fits : (x y : ℤ) → unsigned_abs x ≤ 10 ^ 9 → unsigned_abs y ≤ 10 ^ 9 → SFits w64 (x -ℤ y)
difference-fits x y p q = omega (arith, ints)

coordinate-fits : (x : ℤ) → unsigned_abs x ≤ 10 ^ 9 → SFits w64 x
coordinate-fits x p = omega (arith, ints)

-- a difference of coordinates is what the machine computes
pub difference-read : (x y : ℤ) → unsigned_abs x ≤ 10 ^ 9 → unsigned_abs y ≤ 10 ^ 9 → to_z w64 (of_z w64 (to_z w64 (of_z w64 x) -ℤ to_z w64 (of_z w64 y))) ≡ x -ℤ y
difference-read x y p q = rw (to_z-of_z w64 x (coordinate-fits x p), to_z-of_z w64 y (coordinate-fits y q)) (to_z-of_z w64 (x -ℤ y) (difference-fits x y p q))
