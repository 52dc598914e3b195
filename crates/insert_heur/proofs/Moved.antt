-- A plan with a call taken out, and put back elsewhere: the same calls.
use Rattle.std.proofs.Common.{◌≡◌, ℕ, suc, ◌+◌, ◌<◌, ◌≤◌, Bool, true, false, not, ◌||◌, cond, nat_eq, List, [], ◌∷◌, ◌++◌, length, get_or, drop, refl, ap, sym, subst, ◌∙◌, append_assoc, add-one, arith}
use Rattle.std.proofs.Math.Seq.{drop-cons}
use Rattle.std.proofs.lemmas.Bool.Decides.{nat_tests}
use Rattle.std.proofs.lemmas.List.Folds.{list_any-append}
use Rattle.std.specs.List.{AllByRecursion, concat, filter}
use Rattle.insert_heur.specs.Places.{with_call}
use Rattle.orienteering.specs.PlanCheck.{is_one_of}
use Rattle.std.specs.declared.option.Option.{Option}
use Rattle.std.specs.declared.option.Option.TheVariants.{None, Some}
use Rattle.std.specs.Option.{MatchOption}
use Rattle.orienteering.specs.Instance.{Problem, calls, IsCallAmong}
use Rattle.orienteering.specs.Tour.{IsPlan, plan_time}
use Rattle.insert_heur.specs.Improvement.{before_others, without_call, SameCalls, IsBetter, IsCheaper, IsNoCheaperAnywhere, IsSettled, IsSettledFor}
use Rattle.insert_heur.proofs.PlanCalls.{all_calls}
use Rattle.insert_heur.proofs.Growth.{opened}

other : ℕ → ℕ → Bool
other call c = not (nat_eq c call)

pub rest_of : (plan : List (List ℕ)) (call i : ℕ) (t : List ℕ) → i < length plan → t ≡ get_or plan i t →
    without_call (drop i plan) call ≡ before_others (filter (λ c. not (nat_eq c call)) t) (without_call (drop (i + 1) plan) call)
rest_of plan call i t below here =
    ap (λ ts. without_call ts call)
    (drop-cons plan i t below ∙ ap (λ x. x ∷ drop (suc i) plan) (sym here) ∙ ap (λ n. t ∷ drop n plan) (sym (add-one i)))

pub kept_tour : (tours rest : List (List ℕ)) (kept : List ℕ) → 0 < length kept →
    tours ++ before_others kept rest ≡ (tours ++ kept ∷ []) ++ rest
kept_tour tours rest [] h = absurd (omega arith)
kept_tour tours rest (c ∷ cs) h = sym (append_assoc tours ((c ∷ cs) ∷ []) rest)

pub no_tour : (rest : List (List ℕ)) (kept : List ℕ) → length kept ≡ 0 → before_others kept rest ≡ rest
no_tour rest [] h = refl
no_tour rest (c ∷ cs) h = absurd (omega arith)

concat_before : (kept : List ℕ) (rest : List (List ℕ)) → concat (before_others kept rest) ≡ kept ++ concat rest
concat_before [] rest = refl
concat_before (c ∷ cs) rest = refl

apart : (k call x : ℕ) → nat_eq k call ≡ false → nat_eq x call ≡ true → nat_eq k x ≡ false
apart k call x e f = grind (arith, nat_tests)

kept_calls : (t : List ℕ) (call k : ℕ) → nat_eq k call ≡ false →
    is_one_of (filter (λ c. not (nat_eq c call)) t) k ≡ is_one_of t k
kept_calls [] call k e = refl
kept_calls (x ∷ xs) call k e =
    elim (nat_eq x call) as (λ b. nat_eq x call ≡ b →
    is_one_of (cond (not b) (x ∷ filter (λ c. not (nat_eq c call)) xs) (filter (λ c. not (nat_eq c call)) xs)) k
    ≡ (nat_eq k x || is_one_of xs k)) [
      | true ↦ λ f. kept_calls xs call k e ∙ sym (ap (λ b. b || is_one_of xs k) (apart k call x e f))
      | false ↦ λ f. ap (λ b. nat_eq k x || b) (kept_calls xs call k e)
    ] refl

others : (plan : List (List ℕ)) (call k : ℕ) → nat_eq k call ≡ false →
    is_one_of (concat (without_call plan call)) k ≡ is_one_of (concat plan) k
others [] call k e = refl
others (t ∷ ts) call k e =
    let kept = filter (λ c. not (nat_eq c call)) t in
    ap (λ xs. is_one_of xs k) (concat_before kept (without_call ts call))
    ∙ list_any-append (nat_eq k) kept (concat (without_call ts call))
    ∙ ap (λ b. b || is_one_of (concat (without_call ts call)) k) (kept_calls t call k e)
    ∙ ap (λ b. is_one_of t k || b) (others ts call k e)
    ∙ sym (list_any-append (nat_eq k) t (concat ts))

or_true : (a b : Bool) → (a || (true || b)) ≡ true
or_true true b = refl
or_true false b = refl

pub same_moved : (plan next : List (List ℕ)) (call tour position : ℕ) → is_one_of (concat plan) call ≡ true →
    next ≡ with_call (without_call plan call) call tour position → SameCalls plan next
same_moved plan next call tour position visited is k =
    let rest = without_call plan call in
    let o = opened rest call tour position in
    let now : is_one_of (concat next) k ≡ (is_one_of o.front k || (nat_eq k call || is_one_of o.back k)) =
    ap (λ ts. is_one_of (concat ts) k) is ∙ ap (λ xs. is_one_of xs k) o.after
    ∙ list_any-append (nat_eq k) o.front (call ∷ o.back) in
    now ∙ elim (nat_eq k call) as (λ b. nat_eq k call ≡ b →
    (is_one_of o.front k || (b || is_one_of o.back k)) ≡ is_one_of (concat plan) k) [
      | true ↦ λ e.
          let same : k ≡ call = same_number k call e in
          or_true (is_one_of o.front k) (is_one_of o.back k)
          ∙ sym (ap (λ n. is_one_of (concat plan) n) same ∙ visited)
      | false ↦ λ e.
          sym (list_any-append (nat_eq k) o.front o.back)
          ∙ sym (ap (λ xs. is_one_of xs k) o.before)
          ∙ others plan call k e
    ] refl
  where
    same_number : (m n : ℕ) → nat_eq m n ≡ true → m ≡ n
    same_number m n e = grind (arith, nat_tests)

-- what holds of each number holds of one of them
pub holds_of_one : (P : ℕ → Type 0) (xs : List ℕ) (k : ℕ) → is_one_of xs k ≡ true → AllByRecursion P xs → P k
holds_of_one P [] k e a = absurd (cc)
holds_of_one P (x ∷ xs) k e a =
    elim (nat_eq k x) as (λ b. nat_eq k x ≡ b → (b || is_one_of xs k) ≡ true → P k) [
      | true ↦ λ f g. let same : x ≡ k = sym (same_number k x f) in subst P same a.0
      | false ↦ λ f g. holds_of_one P xs k g a.1
    ] refl e
  where
    same_number : (m n : ℕ) → nat_eq m n ≡ true → m ≡ n
    same_number m n f = grind (arith, nat_tests)

-- what a try with one call tells of the plan
pub better_or_settled : (p : Problem) (plan : List (List ℕ)) (time call : ℕ) → time ≡ plan_time p plan →
    is_one_of (concat plan) call ≡ true → (found : Option (List (List ℕ))) →
    MatchOption found (IsNoCheaperAnywhere p time (without_call plan call) call) (IsCheaper p time (without_call plan call) call) →
    MatchOption found (IsSettledFor p plan call) (IsBetter p plan)
better_or_settled p plan time call same visited None h =
    λ again. subst (λ n. IsNoCheaperAnywhere p n (without_call plan call) call) same h
better_or_settled p plan time call same visited (Some next) h =
    record {
      valid = h.valid;
      same_calls = same_moved plan next call h.place.0 h.place.1 visited h.place.2;
      less = omega (arith, h.less, same);
    }

-- a plan in which each of the calls is settled
pub all_settled : (p : Problem) (plan : List (List ℕ)) (last : ℕ) → IsPlan p plan → calls p < last →
    ((k : ℕ) → 1 ≤ k → k < last → IsSettledFor p plan k) → IsSettled p plan
all_settled p plan last h all each = λ call tour position visited there room valid.
    let is_call = holds_of_one (IsCallAmong (calls p)) (concat plan) call visited (all_calls p plan h.feasible) in
    each call is_call.0 (omega (arith, is_call.1, all)) visited tour there position room valid
