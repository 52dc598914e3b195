-- The walk along used arcs from a first call goes along the tour that begins there, if there is one.
use Rattle.std.proofs.Common.{◌≡◌, ℕ, ◌+◌, ◌<◌, ◌≤◌, true, List, [], ◌∷◌, ◌++◌, length, refl, sym, ap, subst, ◌∙◌, arith, length-append}
use Rattle.std.proofs.lemmas.List.{append_assoc, same_from_push}
use Rattle.orienteering.specs.Instance.{IsArc}
use Rattle.orienteering.specs.Region.{Region, is_used, IsUsedPath}
use Rattle.region_ctx.specs.Links.{AreSingle}
use Rattle.sweep_solver.specs.UsedTours.{IsUsedTour}

-- the calls so far and the place to go to are the front of the tour with the end
pub record IsOnTheWay (r : Region) (tour walked : List ℕ) (place : ℕ) : Type 0 where
  pub more : List ℕ
  pub way : walked ++ place ∷ more ≡ tour ++ (r.calls + 1) ∷ []

path_step : (r : Region) (s : ℕ) (xs : List ℕ) (a b : ℕ) (ys : List ℕ) → IsUsedPath r s (xs ++ a ∷ b ∷ ys) → is_used r a b ≡ true
path_step r s [] a b ys u = u.1.0
path_step r s (x ∷ xs) a b ys u = path_step r x xs a b ys u.1

no_more : {X : Type 0} (xs : List X) → length xs ≤ 0 → xs ≡ []
no_more [] h = refl
no_more (x ∷ xs) h = absurd (omega arith)

module _ (r : Region) (single : AreSingle r.calls r.used) (first : ℕ) (tour : List ℕ) (is : IsUsedTour r first tour) where
  pub at_first : (walked : List ℕ) → walked ≡ [] → IsOnTheWay r tour walked first
  at_first walked none =
      record {
        more = is.rest ++ (r.calls + 1) ∷ [];
        way = ap (λ w. w ++ first ∷ (is.rest ++ (r.calls + 1) ∷ [])) none
            ∙ sym (ap (λ t. t ++ (r.calls + 1) ∷ []) is.begins);
      }

  used_onward : (walked : List ℕ) (place y : ℕ) (ys : List ℕ) → walked ++ place ∷ y ∷ ys ≡ tour ++ (r.calls + 1) ∷ [] →
      is_used r place y ≡ true
  used_onward walked place y ys e = path_step r 0 walked place y ys (subst (λ js. IsUsedPath r 0 js) (sym e) is.path)

  pub goes_on : (walked grown : List ℕ) (place next : ℕ) → place ≤ r.calls →
      ((to : ℕ) → is_used r place to ≡ true → to ≡ next) → grown ≡ walked ++ place ∷ [] →
      IsOnTheWay r tour walked place → IsOnTheWay r tour grown next
  goes_on walked grown place next within alone written on = onward on.more on.way
    where
      onward : (more : List ℕ) → walked ++ place ∷ more ≡ tour ++ (r.calls + 1) ∷ [] → IsOnTheWay r tour grown next
      onward [] e =
          let last : place ≡ r.calls + 1 = (same_from_push walked tour place (r.calls + 1) e).1 in
          absurd (omega arith)
      onward (y ∷ ys) e =
          let to = alone y (used_onward walked place y ys e) in
          record {
            more = ys;
            way = ap (λ w. w ++ next ∷ ys) written
                ∙ append_assoc walked (place ∷ []) (next ∷ ys)
                ∙ ap (λ z. walked ++ place ∷ z ∷ ys) (sym to)
                ∙ e;
          }

  -- behind the last call stands the end
  pub at_end : (walked : List ℕ) (place : ℕ) → r.calls < place → IsOnTheWay r tour walked place → walked ≡ tour
  at_end walked place beyond on = ends on.more on.way
    where
      ends : (more : List ℕ) → walked ++ place ∷ more ≡ tour ++ (r.calls + 1) ∷ [] → walked ≡ tour
      ends [] e = (same_from_push walked tour place (r.calls + 1) e).0
      ends (y ∷ ys) e =
          let a : IsArc r.calls place y = single.arcs place y (used_onward walked place y ys e) in
          let from : place ≤ r.calls = a.from in
          absurd (omega arith)

  -- a walk of as many calls as there are is at the end
  pub at_length : (walked : List ℕ) (place : ℕ) → r.calls ≤ length walked → IsOnTheWay r tour walked place → walked ≡ tour
  at_length walked place long on =
      let one : length (walked ++ place ∷ on.more) ≡ length walked + length (place ∷ on.more) = length-append walked (place ∷ on.more) in
      let two : length (tour ++ (r.calls + 1) ∷ []) ≡ length tour + 1 = length-append tour ((r.calls + 1) ∷ []) in
      let same : length (walked ++ place ∷ on.more) ≡ length (tour ++ (r.calls + 1) ∷ []) = ap length on.way in
      let short : length tour ≤ r.calls = is.short in
      let none = no_more on.more (omega arith) in
      (same_from_push walked tour place (r.calls + 1) (ap (λ m. walked ++ place ∷ m) (sym none) ∙ on.way)).0
