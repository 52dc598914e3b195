-- Sums of prices.
use Rattle.std.proofs.Common.{◌≡◌, ℕ, ◌+◌, ◌<◌, List, [], ◌∷◌, ◌++◌, length, take, get_or, ℤ, ◌+ℤ◌, ap, ◌∙◌, arith}
use Rattle.std.proofs.lemmas.Int.{ints}
use Rattle.std.proofs.lemmas.List.{take_more}
use Rattle.orienteering.specs.Price.{sum_of_prices}

sum_of_prices-push : (es : List (ℕ × ℤ)) (e : ℕ × ℤ) → sum_of_prices (es ++ e ∷ []) ≡ sum_of_prices es +ℤ e.1
sum_of_prices-push [] e = omega (arith, ints)
sum_of_prices-push (f ∷ fs) e = let rest = sum_of_prices-push fs e in omega (arith, ints)

pub sum_of_prices-more : (es : List (ℕ × ℤ)) (i : ℕ) (d : ℕ × ℤ) → i < length es →
    sum_of_prices (take (i + 1) es) ≡ sum_of_prices (take i es) +ℤ (get_or es i d).1
sum_of_prices-more es i d h = ap sum_of_prices (take_more es i d h) ∙ sum_of_prices-push (take i es) (get_or es i d)
