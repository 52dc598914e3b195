-- A length is a root divided by the unit of the coordinates.
use Rattle.std.proofs.Common.{◌≡◌, ℕ, ◌+◌, ◌*◌, ◌^◌, ◌<◌, ◌≤◌, inl, inr, arith, refl}
use Rattle.std.proofs.Math.Nat.{mul-le-mul_left}
use Rattle.std.proofs.lemmas.Bool.{cases_lt}
use Rattle.orienteering.specs.Instance.{scaled_length, IsGreatestLength}
use Rattle.orienteering.proofs.Lengths.{lengths_are_greatest, square}

square-le : (a b : ℕ) → a ≤ b → a * a ≤ b * b
square-le a b le = grind (arith, mul-le-mul_left)

spread : (s x y : ℕ) → s ^ 2 * (x ^ 2 + y ^ 2) ≡ s * s * (x * x + y * y)
spread s x y = rw (square s, square x, square y) refl

-- a root of the scaled squared distance, in ten-thousandths of a scaled unit
pub root-fits : (s x y root t : ℕ) → root * root ≤ s * s * (x * x + y * y) → t * 10000 ≤ root → (t * 10 ^ 4) ^ 2 ≤ s ^ 2 * (x ^ 2 + y ^ 2)
root-fits s x y root t within le =
    omega (arith, square (t * 10000), square-le (t * 10000) root le, spread s x y)

pub root-greatest : (s x y root t u : ℕ) → s * s * (x * x + y * y) < (root + 1) * (root + 1) → root < (t + 1) * 10000 →
    (u * 10 ^ 4) ^ 2 ≤ s ^ 2 * (x ^ 2 + y ^ 2) → u ≤ t
root-greatest s x y root t u above lt fits =
    elim (cases_lt t u) [
      | inl more ↦
          let far : root + 1 ≤ u * 10000 = omega arith in
          absurd (omega (arith, square (u * 10000), square-le (root + 1) (u * 10000) far, spread s x y))
      | inr less ↦ less
    ]

pub length-is : (s x y t : ℕ) → IsGreatestLength s x y t → t ≡ scaled_length s x y
length-is s x y t is = (lengths_are_greatest s x y t).1 is

-- the number whose root is taken
pub product-is : (n a l s x y : ℕ) → n ≡ s → a ≡ x → l ≡ y → n * n * (a * a + l * l) ≡ s * s * (x * x + y * y)
product-is n a l s x y p q r = rw (p, q, r) refl
