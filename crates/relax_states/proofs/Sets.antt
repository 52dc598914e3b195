-- A rising list with one more call.
use Rattle.std.proofs.Common.{◌≡◌, ℕ, zero, suc, ◌+◌, ◌<◌, ◌≤◌, true, false, cond, nat_eq, nat_lt, nat_le, ◌||◌, ◌&&◌, List, [], ◌∷◌, ◌++◌, length, get_or, take, drop, refl, ap, sym, ◌∙◌, arith}
use Rattle.std.specs.Cmp.Derive.{both_true}
use Rattle.std.specs.List.{list_all}
use Rattle.std.proofs.lemmas.Bool.{and_parts}
use Rattle.std.proofs.lemmas.Bool.Decides.{nat_tests}
use Rattle.orienteering.specs.Instance.{is_call}
use Rattle.orienteering.specs.Replay.{rises_above, is_critical_set}
use Rattle.relax_states.specs.CriticalSet.{with_call}
use Rattle.relax_states.specs.Repeats.{stands_in}

lower : (c call : ℕ) → c < call → nat_lt c call ≡ true
lower c call h = grind (arith, nat_tests)

not_lower : (c call : ℕ) → call ≤ c → nat_lt c call ≡ false
not_lower c call h = grind (arith, nat_tests)

within : (a b : ℕ) → a ≤ b → nat_le a b ≡ true
within a b h = grind (arith, nat_tests)

-- the call goes to the place before which all are less, and none behind
with_call-at : (xs : List ℕ) (i call : ℕ) → ((k : ℕ) → k < i → get_or xs k 0 < call) → (i < length xs → call ≤ get_or xs i 0) → i ≤ length xs → with_call xs call ≡ take i xs ++ call ∷ drop i xs
with_call-at [] zero call below above h = refl
with_call-at [] (suc i) call below above h = absurd (omega arith)
with_call-at (x ∷ xs) zero call below above h = ap (λ b. cond b (x ∷ with_call xs call) (call ∷ x ∷ xs)) (not_lower x call (above (omega arith)))
with_call-at (x ∷ xs) (suc i) call below above h =
    ap (λ b. cond b (x ∷ with_call xs call) (call ∷ x ∷ xs)) (lower x call (below 0 (omega arith))) ∙
    ap (λ ys. x ∷ ys) (with_call-at xs i call (λ k l. below (suc k) (omega arith)) (λ l. above (omega arith)) (omega arith))

-- the call goes behind all where all are less
with_call-last : (xs : List ℕ) (call : ℕ) → ((k : ℕ) → k < length xs → get_or xs k 0 < call) → with_call xs call ≡ xs ++ call ∷ []
with_call-last [] call below = refl
with_call-last (x ∷ xs) call below =
    ap (λ b. cond b (x ∷ with_call xs call) (call ∷ x ∷ xs)) (lower x call (below 0 (omega arith))) ∙
    ap (λ ys. x ∷ ys) (with_call-last xs call (λ k l. below (suc k) (omega arith)))

-- what an insertion makes of the list, and what a push does
pub inserted : (xs copy more : List ℕ) (i call : ℕ) → more ≡ take i copy ++ call ∷ drop i copy → copy ≡ xs → ((k : ℕ) → k < i → get_or xs k 0 < call) → (i < length xs → call ≤ get_or xs i 0) → i ≤ length xs → more ≡ with_call xs call
inserted xs copy more i call put same below above h = put ∙ ap (λ ys. take i ys ++ call ∷ drop i ys) same ∙ sym (with_call-at xs i call below above h)

pub pushed : (xs copy more : List ℕ) (call : ℕ) → more ≡ copy ++ call ∷ [] → copy ≡ xs → ((k : ℕ) → k < length xs → get_or xs k 0 < call) → more ≡ with_call xs call
pushed xs copy more call put same below = put ∙ ap (λ ys. ys ++ call ∷ []) same ∙ sym (with_call-last xs call below)

-- a call that isn't among others differs from each
apart : (x call : ℕ) (xs : List ℕ) → stands_in (x ∷ xs) call ≡ false → (nat_eq call x ≡ false) × (stands_in xs call ≡ false)
apart x call xs new =
    elim (nat_eq call x) as (λ b. (b || stands_in xs call) ≡ false → (b ≡ false) × (stands_in xs call ≡ false)) [ true ↦ λ h. absurd (cc) | false ↦ λ h. (refl, h) ] new

above : (x call : ℕ) → nat_lt x call ≡ false → nat_eq call x ≡ false → nat_lt call x ≡ true
above x call f e = grind (arith, nat_tests)

-- one more call in a list that doesn't have it
with_call-rises : (before call : ℕ) (xs : List ℕ) → nat_lt before call ≡ true → stands_in xs call ≡ false → rises_above before xs ≡ true → rises_above before (with_call xs call) ≡ true
with_call-rises before call [] low new rises = both_true low refl
with_call-rises before call (x ∷ xs) low new rises =
    let parts = and_parts (nat_lt before x) (rises_above x xs) rises in
    let new_parts = apart x call xs new in
    elim (nat_lt x call) as (λ b. nat_lt x call ≡ b → rises_above before (cond b (x ∷ with_call xs call) (call ∷ x ∷ xs)) ≡ true) [
      | true ↦ λ less. both_true parts.0 (with_call-rises x call xs less new_parts.1 parts.1)
      | false ↦ λ more. both_true low (both_true (above x call more new_parts.0) parts.1)
    ] refl

with_call-calls : (last call : ℕ) (xs : List ℕ) → is_call last call ≡ true → list_all (is_call last) xs ≡ true → list_all (is_call last) (with_call xs call) ≡ true
with_call-calls last call [] is others = both_true is refl
with_call-calls last call (x ∷ xs) is others =
    let parts = and_parts (is_call last x) (list_all (is_call last) xs) others in
    elim (nat_lt x call) as (λ b. list_all (is_call last) (cond b (x ∷ with_call xs call) (call ∷ x ∷ xs)) ≡ true) [
      | true ↦ both_true parts.0 (with_call-calls last call xs is parts.1)
      | false ↦ both_true is others
    ]

pub with_call-longer : (xs : List ℕ) (call : ℕ) → length (with_call xs call) ≡ length xs + 1
with_call-longer [] call = refl
with_call-longer (x ∷ xs) call =
    elim (nat_lt x call) as (λ b. length (cond b (x ∷ with_call xs call) (call ∷ x ∷ xs)) ≡ length (x ∷ xs) + 1) [
      | true ↦ (let rest = with_call-longer xs call in omega arith)
      | false ↦ omega arith
    ]

-- a critical set with room for one more call that it doesn't have
pub with_call-is_set : (last : ℕ) (xs : List ℕ) (call : ℕ) → is_critical_set last xs ≡ true → length xs < 64 → 1 ≤ call → call ≤ last → stands_in xs call ≡ false → is_critical_set last (with_call xs call) ≡ true
with_call-is_set last xs call set room low high new =
    let parts = and_parts (rises_above 0 xs) (list_all (is_call last) xs && nat_le (length xs) 64) set in
    let more = and_parts (list_all (is_call last) xs) (nat_le (length xs) 64) parts.1 in
    let longer = with_call-longer xs call in
    both_true (with_call-rises 0 call xs (lower 0 call (omega arith)) new parts.0)
    (both_true (with_call-calls last call xs (both_true (within 1 call low) (within call last high)) more.0)
    (within (length (with_call xs call)) 64 (omega arith)))
