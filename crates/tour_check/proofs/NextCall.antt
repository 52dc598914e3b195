-- A call in which nothing is refused leaves the refusal of the tour to the calls behind it.
use Rattle.std.proofs.Common.{◌≡◌, ℕ, suc, ◌+◌, ◌<◌, Bool, true, false, cond, List, [], ◌∷◌, ◌++◌, length, take, drop, get_or, ap, sym, ◌∙◌, add-one}
use Rattle.std.specs.Prelude.{not}
use Rattle.std.proofs.Math.Seq.{drop-cons}
use Rattle.std.proofs.lemmas.List.{take_more}
use Rattle.std.specs.declared.option.Option.{Option}
use Rattle.std.specs.declared.option.Option.TheVariants.{None, Some}
use Rattle.orienteering.specs.Instance.{Problem, calls, is_call, next_clock}
use Rattle.orienteering.specs.PlanCheck.{is_one_of, rest_refusal}
use Rattle.orienteering.specs.declared.TourRefusal.{TourRefusal}
use Rattle.orienteering.specs.declared.TourRefusal.TheVariants.{UnknownCall, Repeat, Late}

rest_refusal-behind : (p : Problem) (seen : List ℕ) (i c j d : ℕ) (js : List ℕ) → is_call (calls p) j ≡ true →
    is_one_of seen j ≡ false → next_clock p c i j ≡ Some d →
    rest_refusal p seen i c (j ∷ js) ≡ rest_refusal p (seen ++ j ∷ []) j d js
rest_refusal-behind p seen i c j d js call new step =
    let later : Option ℕ → Option TourRefusal =
    λ o. elim o [ None ↦ Some (Late j) | Some e ↦ rest_refusal p (seen ++ j ∷ []) j e js ] in
    ap (λ (b : Bool). cond (not b) (Some (UnknownCall j)) (cond (is_one_of seen j) (Some (Repeat j)) (later (next_clock p c i j)))) call
    ∙ ap (λ (b : Bool). cond b (Some (Repeat j)) (later (next_clock p c i j))) new
    ∙ ap later step

pub rest_refusal-next : (p : Problem) (tour : List ℕ) (k i c d : ℕ) → k < length tour →
    is_call (calls p) (get_or tour k 0) ≡ true → is_one_of (take k tour) (get_or tour k 0) ≡ false →
    next_clock p c i (get_or tour k 0) ≡ Some d →
    rest_refusal p (take k tour) i c (drop k tour) ≡ rest_refusal p (take (k + 1) tour) (get_or tour k 0) d (drop (k + 1) tour)
rest_refusal-next p tour k i c d below call new step =
    let j = get_or tour k 0 in
    ap (rest_refusal p (take k tour) i c) (drop-cons tour k 0 below)
    ∙ rest_refusal-behind p (take k tour) i c j d (drop (suc k) tour) call new step
    ∙ ap (λ seen. rest_refusal p seen j d (drop (suc k) tour)) (sym (take_more tour k 0 below))
    ∙ ap (λ n. rest_refusal p (take (k + 1) tour) j d (drop n tour)) (sym (add-one k))
