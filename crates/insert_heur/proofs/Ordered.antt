-- What holds of each element holds of each one of the list in order.
use Rattle.std.proofs.Common.{Bool, true, false, cond, List, [], ◌∷◌}
use Rattle.std.specs.List.{AllByRecursion}
use Rattle.insert_heur.specs.Candidates.{put_before, in_order}

module _ {X : Type 0} (lt : X → X → Bool) (P : X → Type 0) where
  all_put : (x : X) (ys : List X) → P x → AllByRecursion P ys → AllByRecursion P (put_before lt x ys)
  all_put x [] h a = (h, tt)
  all_put x (y ∷ ys) h a =
      elim (lt x y) as (λ b. AllByRecursion P (cond b (x ∷ y ∷ ys) (y ∷ put_before lt x ys))) [
        | true ↦ (h, a)
        | false ↦ (a.0, all_put x ys h a.1)
      ]

  pub all_in_order : (xs : List X) → AllByRecursion P xs → AllByRecursion P (in_order lt xs)
  all_in_order [] a = tt
  all_in_order (x ∷ xs) a = all_put x (in_order lt xs) a.0 (all_in_order xs a.1)
