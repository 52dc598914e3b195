-- Critical calls under names that keep their order: what a cut's walks carry is extended and compared alike.
use Rattle.std.proofs.Common.{◌≡◌, ℕ, zero, suc, ◌+◌, ◌<◌, ◌≤◌, Bool, true, false, cond, ◌&&◌, ◌||◌, nat_eq, nat_lt, nat_le, List, [], ◌∷◌, length, map, get_or, Option, None, Some, inl, inr, refl, sym, ap, ◌∙◌, arith}
use Rattle.std.specs.List.{list_any, list_all, position, position_or_len}
use Rattle.std.specs.Option.{option_map}
use Rattle.std.proofs.lemmas.Bool.{cases_order, cases_lt, and_parts, eq-eqb, ne_eqb, eqb-true, ltb-true, leb-true, lt-ltb, le-ltb, cond-true, cond-false, both_ways}
use Rattle.std.proofs.lemmas.List.Folds.{list_any_at, list_any_none}
use Rattle.std.proofs.lemmas.List.Sums.{passes_at_first, fails_before_first, AllPass-from_list_all}
use Rattle.bit_sets.specs.NumberSet.{member, inserted, is_subset}
use Rattle.label_core.specs.Clock.{clock_rules}
use Rattle.label_core.specs.Critical.{critical_after}
use Rattle.label_core.specs.Pair.{both}
use Rattle.label_core.specs.Worth.{worth_rules}
use Rattle.label_core.specs.declared.clock.Clock.{Clock}
use Rattle.label_core.specs.declared.worth.Worth.{Worth}
use Rattle.label_engine.specs.Cut.{CutValue, CutStep, cut_rules, mark_of}
use Rattle.label_engine.specs.Renaming.{carried, stepped, name_at}
use Rattle.orienteering.specs.Instance.{is_call}
use Rattle.orienteering.specs.Region.{Region}
use Rattle.orienteering.specs.Replay.{relaxation, is_critical_set, rises_above, most_critical}
use Rattle.orienteering.specs.declared.Price.{Price}

module _ (g : ℕ → ℕ) (rises : (i j : ℕ) → i < j → g i < g j) where
  pub nat_eq-name : (x y : ℕ) → nat_eq (g x) (g y) ≡ nat_eq x y
  nat_eq-name x y =
      elim (cases_order x y) [
        | inl same ↦ eq-eqb (g x) (g y) (ap g same) ∙ sym (eq-eqb x y same)
        | inr differ ↦ elim differ [
          | inl below ↦ let named = rises x y below in ne_eqb (g x) (g y) (λ e. omega arith) ∙ sym (ne_eqb x y (λ e. omega arith))
          | inr above ↦ let named = rises y x above in ne_eqb (g x) (g y) (λ e. omega arith) ∙ sym (ne_eqb x y (λ e. omega arith))
        ]
      ]

  pub nat_lt-name : (x y : ℕ) → nat_lt (g x) (g y) ≡ nat_lt x y
  nat_lt-name x y =
      elim (cases_order x y) [
        | inl same ↦ let named : g x ≡ g y = ap g same in le-ltb (g x) (g y) (omega arith) ∙ sym (le-ltb x y (omega arith))
        | inr differ ↦ elim differ [
          | inl below ↦ lt-ltb (g x) (g y) (rises x y below) ∙ sym (lt-ltb x y below)
          | inr above ↦ let named = rises y x above in le-ltb (g x) (g y) (omega arith) ∙ sym (le-ltb x y (omega arith))
        ]
      ]

  pub name_one_to_one : (x y : ℕ) → g x ≡ g y → x ≡ y
  name_one_to_one x y e = eqb-true x y (sym (nat_eq-name x y) ∙ eq-eqb (g x) (g y) e)

  pub member-map : (x : ℕ) (xs : List ℕ) → member (g x) (map g xs) ≡ member x xs
  member-map x [] = refl
  member-map x (y ∷ ys) =
      ap (λ b. b || member (g x) (map g ys)) (nat_eq-name x y) ∙ ap (λ b. nat_eq x y || b) (member-map x ys)

  pub is_subset-map : (xs ys : List ℕ) → is_subset (map g xs) (map g ys) ≡ is_subset xs ys
  is_subset-map [] ys = refl
  is_subset-map (x ∷ xs) ys =
      ap (λ b. b && is_subset (map g xs) (map g ys)) (member-map x ys) ∙ ap (λ b. member x ys && b) (is_subset-map xs ys)

  choice-map : (b c : Bool) (us vs ws : List ℕ) → cond b (map g us) (cond c (map g vs) (map g ws)) ≡ map g (cond b us (cond c vs ws))
  choice-map true c us vs ws = refl
  choice-map false true us vs ws = refl
  choice-map false false us vs ws = refl

  pub inserted-map : (x : ℕ) (xs : List ℕ) → inserted (g x) (map g xs) ≡ map g (inserted x xs)
  inserted-map x [] = refl
  inserted-map x (y ∷ ys) =
      ap (λ b. cond b (map g (x ∷ y ∷ ys)) (cond (nat_eq (g x) (g y)) (map g (y ∷ ys)) (g y ∷ inserted (g x) (map g ys)))) (nat_lt-name x y) ∙
      ap (λ b. cond (nat_lt x y) (map g (x ∷ y ∷ ys)) (cond b (map g (y ∷ ys)) (g y ∷ inserted (g x) (map g ys)))) (nat_eq-name x y) ∙
      ap (λ l. cond (nat_lt x y) (map g (x ∷ y ∷ ys)) (cond (nat_eq x y) (map g (y ∷ ys)) (g y ∷ l))) (inserted-map x ys) ∙
      choice-map (nat_lt x y) (nat_eq x y) (x ∷ y ∷ ys) (y ∷ ys) (y ∷ inserted x ys)

  new-map : (b : Bool) (xs : List ℕ) → cond b None (Some (map g xs)) ≡ option_map (map g) (cond b None (Some xs))
  new-map true xs = refl
  new-map false xs = refl

  pub critical_after-map : (held : List ℕ) (mark : Option ℕ) → critical_after (map g held) (option_map g mark) ≡ option_map (map g) (critical_after held mark)
  critical_after-map held None = refl
  critical_after-map held (Some n) =
      ap (λ b. cond b None (Some (inserted (g n) (map g held)))) (member-map n held) ∙
      ap (λ l. cond (member n held) None (Some l)) (inserted-map n held) ∙
      new-map (member n held) (inserted n held)

  pub map_one_to_one : (xs ys : List ℕ) → map g xs ≡ map g ys → xs ≡ ys
  map_one_to_one [] [] e = refl
  map_one_to_one [] (y ∷ ys) e = cc
  map_one_to_one (x ∷ xs) [] e = cc
  map_one_to_one (x ∷ xs) (y ∷ ys) e =
      let head : g x ≡ g y = cc in
      let tail : map g xs ≡ map g ys = cc in
      ap (λ n. n ∷ xs) (name_one_to_one x y head) ∙ ap (λ l. y ∷ l) (map_one_to_one xs ys tail)

  -- ---- the whole value of a cut

  both-carried : (clock : Option Clock) (held : Option (List ℕ)) (worth : Option Worth) → both clock (both (option_map (map g) held) worth) ≡ option_map (carried g) (both clock (both held worth))
  both-carried None held worth = refl
  both-carried (Some c) None worth = refl
  both-carried (Some c) (Some h) None = refl
  both-carried (Some c) (Some h) (Some w) = refl

  pub extended-carried : (v : CutValue) (s : CutStep) → cut_rules.extended (carried g v) (stepped g s) ≡ option_map (carried g) (cut_rules.extended v s)
  extended-carried v s =
      ap (λ held. both (clock_rules.extended v.a s.a) (both held (worth_rules.extended v.b.b s.b.b))) (critical_after-map v.b.a s.b.a) ∙
      both-carried (clock_rules.extended v.a s.a) (critical_after v.b.a s.b.a) (worth_rules.extended v.b.b s.b.b)

  pub leq-carried : (v w : CutValue) → cut_rules.leq (carried g v) (carried g w) ≡ cut_rules.leq v w
  leq-carried v w = ap (λ b. clock_rules.leq v.a w.a && (b && worth_rules.leq v.b.b w.b.b)) (is_subset-map v.b.a w.b.a)

  pub carried_one_to_one : (v w : CutValue) → carried g v ≡ carried g w → v ≡ w
  carried_one_to_one v w e =
      let held : v.b.a ≡ w.b.a = map_one_to_one v.b.a w.b.a (ap (λ (u : CutValue). u.b.a) e) in
      λ i. record { a = (e i).a; b = record { a = held i; b = (e i).b.b } }

-- ---- the names by place

name_at-within : (critical : List ℕ) (k : ℕ) → k < length critical → name_at critical k ≡ get_or critical k 0
name_at-within critical k within = cond-true _ _ _ (lt-ltb k (length critical) within)

name_at-past : (critical : List ℕ) (k : ℕ) → length critical ≤ k → name_at critical k ≡ 301 + k
name_at-past critical k past = cond-false _ _ _ (le-ltb k (length critical) past)

above_at : (before : ℕ) (xs : List ℕ) → rises_above before xs ≡ true → (j : ℕ) → j < length xs → before < get_or xs j 0
above_at before [] h j within = absurd (omega arith)
above_at before (x ∷ xs) h zero within = ltb-true before x (and_parts (nat_lt before x) (rises_above x xs) h).0
above_at before (x ∷ xs) h (suc j) within =
    let parts = and_parts (nat_lt before x) (rises_above x xs) h in
    let first : before < x = ltb-true before x parts.0 in
    let rest : x < get_or xs j 0 = above_at x xs parts.1 j (omega arith) in
    omega arith

rises_at : (before : ℕ) (xs : List ℕ) → rises_above before xs ≡ true → (i j : ℕ) → i < j → j < length xs → get_or xs i 0 < get_or xs j 0
rises_at before [] h i j below within = absurd (omega arith)
rises_at before (x ∷ xs) h i zero below within = absurd (omega arith)
rises_at before (x ∷ xs) h zero (suc j) below within = above_at x xs (and_parts (nat_lt before x) (rises_above x xs) h).1 j (omega arith)
rises_at before (x ∷ xs) h (suc i) (suc j) below within = rises_at x xs (and_parts (nat_lt before x) (rises_above x xs) h).1 i j (omega arith) (omega arith)

call_at : (n : ℕ) (xs : List ℕ) → list_all (is_call n) xs ≡ true → (k : ℕ) → k < length xs → get_or xs k 0 ≤ n
call_at n xs h k within =
    leb-true (get_or xs k 0) n (and_parts (nat_le 1 (get_or xs k 0)) (nat_le (get_or xs k 0) n) (AllPass-from_list_all (is_call n) xs h k 0 within)).1

pub name_at_rises : (n : ℕ) (critical : List ℕ) → is_critical_set n critical ≡ true → n ≤ 300 → (i j : ℕ) → i < j → name_at critical i < name_at critical j
name_at_rises n critical set few i j below =
    let parts = and_parts (rises_above 0 critical) (list_all (is_call n) critical && nat_le (length critical) most_critical) set in
    let calls = (and_parts (list_all (is_call n) critical) (nat_le (length critical) most_critical) parts.1).0 in
    elim (cases_lt j (length critical)) [
      | inl within ↦
          let first : name_at critical i ≡ get_or critical i 0 = name_at-within critical i (omega arith) in
          let second : name_at critical j ≡ get_or critical j 0 = name_at-within critical j within in
          let rises : get_or critical i 0 < get_or critical j 0 = rises_at 0 critical parts.0 i j below within in
          omega arith
      | inr past ↦
          let second : name_at critical j ≡ 301 + j = name_at-past critical j past in
          elim (cases_lt i (length critical)) [
            | inl within ↦
                let first : name_at critical i ≡ get_or critical i 0 = name_at-within critical i within in
                let low : get_or critical i 0 ≤ n = call_at n critical calls i within in
                omega arith
            | inr before ↦ let first : name_at critical i ≡ 301 + i = name_at-past critical i before in omega arith
          ]
    ]

-- a critical call's place is named by the call
pub position-name_at : (now : Region) (price : Price) (critical : List ℕ) (j : ℕ) → option_map (name_at critical) (position (λ k. nat_eq k j) critical) ≡ mark_of (relaxation now price critical) j
position-name_at now price critical j =
    let test : ℕ → Bool = λ k. nat_eq k j in
    let first : ℕ = position_or_len test critical in
    elim (cases_lt first (length critical)) [
      | inl within ↦
          let found : get_or critical first 0 ≡ j = eqb-true (get_or critical first 0) j (passes_at_first test critical 0 within) in
          ap (option_map (name_at critical)) (cond-true (nat_lt first (length critical)) (Some first) None (lt-ltb first (length critical) within)) ∙
          ap (λ k. Some k) (name_at-within critical first within ∙ found) ∙
          sym (cond-true (list_any (nat_eq j) critical) (Some j) None
          (list_any_at (nat_eq j) critical first 0 within (eq-eqb j (get_or critical first 0) (sym found))))
      | inr past ↦
          ap (option_map (name_at critical)) (cond-false (nat_lt first (length critical)) (Some first) None (le-ltb first (length critical) past)) ∙
          sym (cond-false (list_any (nat_eq j) critical) (Some j) None
          (list_any_none (nat_eq j) critical (λ k d within. ne_eqb j (get_or critical k d) (λ e.
          both_ways (nat_eq (get_or critical k d) j) (fails_before_first test critical k d (omega arith)) (eq-eqb (get_or critical k d) j (sym e))))))
    ]
