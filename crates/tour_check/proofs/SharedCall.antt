-- A tour that shares a call with the tours before it is the first violated part of a plan whose earlier tours are right.
use Rattle.std.proofs.Common.{◌≡◌, ℕ, suc, ◌+◌, ◌<◌, ◌≤◌, Bool, false, cond, List, [], ◌∷◌, ◌++◌, length, take, drop, get_or, ap, sym, ◌∙◌, add-one, arith}
use Rattle.std.specs.Prelude.{nat_lt}
use Rattle.std.specs.List.{concat}
use Rattle.std.proofs.Math.Seq.{drop-cons}
use Rattle.std.proofs.lemmas.Bool.Decides.{nat_tests}
use Rattle.std.specs.declared.option.Option.{Option}
use Rattle.std.specs.declared.option.Option.TheVariants.{None, Some}
use Rattle.orienteering.specs.Instance.{Problem}
use Rattle.orienteering.specs.PlanCheck.{tour_refusal, first_shared, tours_refusal, plan_refusal}
use Rattle.orienteering.specs.declared.TourRefusal.{TourRefusal}
use Rattle.orienteering.specs.declared.PlanRefusal.{PlanRefusal}
use Rattle.orienteering.specs.declared.PlanRefusal.TheVariants.{TooManyTours, Tour, Shared}

few_tours : (m n : ℕ) → n ≤ m → nat_lt m n ≡ false
few_tours m n h = grind (arith, nat_tests)

tours_refusal-shared : (p : Problem) (earlier : List ℕ) (k call : ℕ) (t : List ℕ) (ts : List (List ℕ)) → tour_refusal p t ≡ None →
    first_shared earlier t ≡ Some call → tours_refusal p earlier k (t ∷ ts) ≡ Some (Shared k call)
tours_refusal-shared p earlier k call t ts right shared =
    let later : Option ℕ → Option PlanRefusal =
    λ o. elim o [ Some c ↦ Some (Shared k c) | None ↦ tours_refusal p (earlier ++ t) (k + 1) ts ] in
    ap (λ (o : Option TourRefusal). elim o [ Some why ↦ Some (Tour k why) | None ↦ later (first_shared earlier t) ]) right ∙ ap later shared

pub plan_refusal-shared : (p : Problem) (plan : List (List ℕ)) (i call : ℕ) (t : List ℕ) → length plan ≤ p.team → i < length plan →
    t ≡ get_or plan i t → tour_refusal p t ≡ None → first_shared (concat (take i plan)) t ≡ Some call →
    tours_refusal p [] 1 plan ≡ tours_refusal p (concat (take i plan)) (i + 1) (drop i plan) →
    plan_refusal p plan ≡ Some (Shared (i + 1) call)
plan_refusal-shared p plan i call t few below here right shared same =
    let rest : drop i plan ≡ t ∷ drop (suc i) plan = drop-cons plan i t below ∙ ap (λ x. x ∷ drop (suc i) plan) (sym here) in
    ap (λ (b : Bool). cond b (Some TooManyTours) (tours_refusal p [] 1 plan)) (few_tours p.team (length plan) few)
    ∙ same
    ∙ ap (tours_refusal p (concat (take i plan)) (i + 1)) rest
    ∙ tours_refusal-shared p (concat (take i plan)) (i + 1) call t (drop (suc i) plan) right shared
