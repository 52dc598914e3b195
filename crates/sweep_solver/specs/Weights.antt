-- Each proper region weighs something, and the parts of a split weigh at most the whole together.
use Rattle.std.proofs.Common.{◌≡◌, ℕ, suc, ◌+◌, ◌-◌, ◌*◌, ◌^◌, ◌<◌, ◌≤◌, inl, inr, true, false, true≢false, not, ◌&&◌, ◌||◌, List, ◌∷◌, length, filter, refl, sym, ◌∙◌, ap, subst, arith}
use Rattle.std.proofs.lemmas.Bool.{and_parts, and_from, or_cases, or_left, or_right, not-true, not_from_false, false_from_ne_true}
use Rattle.std.proofs.Math.Nat.{mul-le-mul_left, mul-le-mul_right, pow-suc, one-le-pow}
use Rattle.std.proofs.Math.Pow.{pow_mono}
use Rattle.orienteering.specs.Instance.{Problem, IsArc, origins, targets, is_call, is_arc}
use Rattle.orienteering.specs.Arc.{Arc, arc}
use Rattle.orienteering.specs.Region.{Region, is_used, is_banned, is_left, is_entered, is_shut, is_open, is_undecided, undecided_count, IsProper, MakesProgress, first_child, second_child}
use Rattle.orienteering.specs.Decide.{region_rules}
use Rattle.orienteering.specs.Size.{IsWeight}
use Rattle.orienteering.specs.Weight.{range_size, weight}
use Rattle.orienteering.specs.declared.Split.{Split}
use Rattle.orienteering.specs.declared.Split.TheVariants as split
use Rattle.orienteering.proofs.Members.{IsMember, member_of_filter, source_of_filter, no_repeat_filter, some_passes, one_that_passes, total, total_within, total_one}
use Rattle.orienteering.proofs.ArcSets.{inserted, kept, arc_tested, grid, no_repeat_grid, member_of_grid, total_over_grid}
use Rattle.orienteering.proofs.Decide.{is_split, split_proper}

-- ---- undecided arcs

undecided_arcs : Region → List Arc
undecided_arcs r = filter (λ (a : Arc). is_undecided r a.from a.to) (grid r.calls)

undecided_is_length : (r : Region) → length (undecided_arcs r) ≡ undecided_count r
unfolding undecided_arcs
undecided_is_length r =
    sym (total_one (filter (λ (a : Arc). is_undecided r a.from a.to) (grid r.calls)))
    ∙ total_over_grid (λ i j. 1) (is_undecided r) r.calls

-- what is shut or used stays so, and the arc itself is decided
record Decides (r s : Region) (i j : ℕ) : Type 0 where
  same_calls : s.calls ≡ r.calls
  keeps_used : (k l : ℕ) → is_used r k l ≡ true → is_used s k l ≡ true
  keeps_banned : (k l : ℕ) → is_banned r k l ≡ true → is_banned s k l ≡ true
  decided : is_undecided s i j ≡ true → ⊥

module _ (r s : Region) (i j : ℕ) (d : Decides r s i j) where
  keeps_left : (k : ℕ) → is_left r k ≡ true → is_left s k ≡ true
  keeps_left k h =
      let f = one_that_passes (λ l. is_used r k l) (targets r.calls) h in
      some_passes (λ l. is_used s k l) f.0 (targets s.calls) (subst (λ n. IsMember f.0 (targets n)) (sym d.same_calls) f.1) (d.keeps_used k f.0 f.2)

  keeps_entered : (l : ℕ) → is_entered r l ≡ true → is_entered s l ≡ true
  keeps_entered l h =
      let f = one_that_passes (λ k. is_used r k l) (origins r.calls) h in
      some_passes (λ k. is_used s k l) f.0 (origins s.calls) (subst (λ n. IsMember f.0 (origins n)) (sym d.same_calls) f.1) (d.keeps_used f.0 l f.2)

  -- an arc that the second region leaves undecided, the first did
  was_undecided : (k l : ℕ) → is_undecided s k l ≡ true → is_undecided r k l ≡ true
  was_undecided k l h =
      let a = and_parts (is_open s k l) (not (is_used s k l)) h in
      let b = and_parts (is_arc s.calls k l) (not (is_shut s k l)) a.0 in
      let unused : is_used s k l ≡ false = not-true (is_used s k l) a.1 in
      let free : is_shut s k l ≡ false = not-true (is_shut s k l) b.1 in
      let was_unused : is_used r k l ≡ false = false_from_ne_true (is_used r k l) (λ u. true≢false (sym (d.keeps_used k l u) ∙ unused)) in
      and_from (is_open r k l) (not (is_used r k l))
      (and_from (is_arc r.calls k l) (not (is_shut r k l))
      (subst (λ n. is_arc n k l ≡ true) d.same_calls b.0)
      (not_from_false (is_shut r k l) (false_from_ne_true (is_shut r k l) (λ shut. true≢false (sym (stays_shut k l unused shut) ∙ free)))))
      (not_from_false (is_used r k l) was_unused)
    where
      stays_shut : (k l : ℕ) → is_used s k l ≡ false → is_shut r k l ≡ true → is_shut s k l ≡ true
      stays_shut k l unused shut =
          let parts = and_parts (not (is_used r k l)) _ shut in
          and_from (not (is_used s k l)) _ (not_from_false (is_used s k l) unused)
          (elim (or_cases (is_banned r k l || (is_call r.calls k && is_left r k)) (is_call r.calls l && is_entered r l) parts.1) [
            | inl h ↦ or_left (is_banned s k l || (is_call s.calls k && is_left s k)) (is_call s.calls l && is_entered s l)
                (elim (or_cases (is_banned r k l) (is_call r.calls k && is_left r k) h) [
                  | inl b ↦ or_left (is_banned s k l) (is_call s.calls k && is_left s k) (d.keeps_banned k l b)
                  | inr m ↦
                      let both = and_parts (is_call r.calls k) (is_left r k) m in
                      or_right (is_banned s k l) (is_call s.calls k && is_left s k)
                      (and_from (is_call s.calls k) (is_left s k) (subst (λ n. is_call n k ≡ true) (sym d.same_calls) both.0) (keeps_left k both.1))
                ])
            | inr m ↦
                let both = and_parts (is_call r.calls l) (is_entered r l) m in
                or_right (is_banned s k l || (is_call s.calls k && is_left s k)) (is_call s.calls l && is_entered s l)
                (and_from (is_call s.calls l) (is_entered s l) (subst (λ n. is_call n l ≡ true) (sym d.same_calls) both.0) (keeps_entered l both.1))
          ])

  fewer_undecided : is_undecided r i j ≡ true → undecided_count s + 1 ≤ undecided_count r
  unfolding undecided_arcs
  fewer_undecided h =
      let t = λ (a : Arc). is_undecided r a.from a.to in
      let u = λ (a : Arc). is_undecided s a.from a.to in
      let xs = filter u (grid s.calls) in
      let ys = filter t (grid r.calls) in
      let here : IsArc r.calls i j = arc_tested r.calls i j (and_parts (is_arc r.calls i j) (not (is_shut r i j)) (and_parts (is_open r i j) (not (is_used r i j)) h).0).0 in
      let within : total (λ _. 1) (arc i j ∷ xs) ≤ total (λ _. 1) ys =
      total_within (λ _. 1) (arc i j ∷ xs) ys
      ((λ m. d.decided (source_of_filter u (arc i j) (grid s.calls) m).1), no_repeat_filter u (grid s.calls) (no_repeat_grid s.calls))
      (λ a m. elim m [
        | inl e ↦ subst (λ b. IsMember b ys) (sym e) (member_of_filter t (arc i j) (grid r.calls) (member_of_grid r.calls i j here.from here.low here.high) h)
        | inr n ↦
            let from = source_of_filter u a (grid s.calls) n in
            member_of_filter t a (grid r.calls) (subst (λ n. IsMember a (grid n)) d.same_calls from.0) (was_undecided a.from a.to from.1)
      ]) in
      let x : total (λ _. 1) xs ≡ length xs = total_one xs in
      let y : total (λ _. 1) ys ≡ length ys = total_one ys in
      let c : length xs ≡ undecided_count s = undecided_is_length s in
      let e : length ys ≡ undecided_count r = undecided_is_length r in
      omega arith

used_decides : (r : Region) (i j : ℕ) → Decides r (first_child r (split.Arc i j)) i j
used_decides r i j =
    record {
      same_calls = refl;
      keeps_used = λ k l u. kept r.used (arc i j) (arc k l) u;
      keeps_banned = λ k l b. b;
      decided = λ h.
          let s = first_child r (split.Arc i j) in
          true≢false (sym (inserted r.used (arc i j)) ∙ not-true (is_used s i j) (and_parts (is_open s i j) (not (is_used s i j)) h).1);
    }

banned_decides : (r : Region) (i j : ℕ) → Decides r (second_child r (split.Arc i j)) i j
banned_decides r i j =
    record {
      same_calls = refl;
      keeps_used = λ k l u. u;
      keeps_banned = λ k l b. kept r.banned (arc i j) (arc k l) b;
      decided = λ h.
          let s = second_child r (split.Arc i j) in
          let a = and_parts (is_open s i j) (not (is_used s i j)) h in
          let free = not-true (is_shut s i j) (and_parts (is_arc s.calls i j) (not (is_shut s i j)) a.0).1 in
          let banned : is_banned s i j ≡ true = inserted r.banned (arc i j) in
          true≢false (sym (and_from (not (is_used s i j)) _ a.1
          (or_left (is_banned s i j || (is_call s.calls i && is_left s i)) (is_call s.calls j && is_entered s j)
          (or_left (is_banned s i j) (is_call s.calls i && is_left s i) banned))) ∙ free);
    }

-- ---- weights

powers : (a b c : ℕ) → a + 1 ≤ c → b + 1 ≤ c → 2 ^ a + 2 ^ b ≤ 2 ^ c
powers a b c h k =
    let left : 2 ^ a ≤ 2 ^ (c - 1) = pow_mono (omega arith) in
    let right : 2 ^ b ≤ 2 ^ (c - 1) = pow_mono (omega arith) in
    let whole : 2 ^ (suc (c - 1)) ≡ 2 ^ (c - 1) * 2 = pow-suc 2 (c - 1) in
    let same : suc (c - 1) ≡ c = omega arith in
    let power : 2 ^ (suc (c - 1)) ≡ 2 ^ c = ap (λ n. 2 ^ n) same in
    omega arith

-- a product grows with the sum of a part
spread_first : (a b c w : ℕ) → a + b ≤ c → a * w + b * w ≤ c * w
spread_first a b c w h = let grows : (a + b) * w ≤ c * w = mul-le-mul_right w h in let e : (a + b) * w ≡ a * w + b * w = grind arith in omega arith

spread_last : (k a b c : ℕ) → a + b ≤ c → k * a + k * b ≤ k * c
spread_last k a b c h = let grows : k * (a + b) ≤ k * c = mul-le-mul_left k h in let e : k * (a + b) ≡ k * a + k * b = grind arith in omega arith

one_of : (k w : ℕ) → 1 ≤ k → 1 ≤ w → 1 ≤ k * w
one_of k w h l = let grows : k * 1 ≤ k * w = mul-le-mul_left k l in omega arith

module _ (p : Problem) where
  some_weight : (r : Region) → 1 ≤ weight r
  some_weight r =
      one_of (range_size r.raw.p_lo r.raw.p_hi) _ (omega arith)
      (one_of (range_size r.raw.t_lo r.raw.t_hi) _ (omega arith)
      (one_of (range_size r.fewest r.most) (2 ^ undecided_count r) (omega arith) (one-le-pow (undecided_count r) 2 (omega arith))))

  parts_weigh : (r : Region) (s : Split) → MakesProgress r s → weight (first_child r s) + weight (second_child r s) ≤ weight r
  parts_weigh r (split.Profit v) h =
      let a : r.raw.p_lo ≤ v = h.0 in let b : v < r.raw.p_hi = h.1 in
      spread_first (range_size r.raw.p_lo v) (range_size (v + 1) r.raw.p_hi) (range_size r.raw.p_lo r.raw.p_hi) _ (omega arith)
  parts_weigh r (split.Time v) h =
      let a : r.raw.t_lo ≤ v = h.0 in let b : v < r.raw.t_hi = h.1 in
      spread_last (range_size r.raw.p_lo r.raw.p_hi) _ _ _
      (spread_first (range_size r.raw.t_lo v) (range_size (v + 1) r.raw.t_hi) (range_size r.raw.t_lo r.raw.t_hi) (range_size r.fewest r.most * 2 ^ undecided_count r) (omega arith))
  parts_weigh r (split.Count c) h =
      let a : r.fewest ≤ c = h.0 in let b : c < r.most = h.1 in
      spread_last (range_size r.raw.p_lo r.raw.p_hi) _ _ _
      (spread_last (range_size r.raw.t_lo r.raw.t_hi) _ _ _
      (spread_first (range_size r.fewest c) (range_size (c + 1) r.most) (range_size r.fewest r.most) (2 ^ undecided_count r) (omega arith)))
  parts_weigh r (split.Arc i j) h =
      let first = fewer_undecided r (first_child r (split.Arc i j)) i j (used_decides r i j) h in
      let second = fewer_undecided r (second_child r (split.Arc i j)) i j (banned_decides r i j) h in
      spread_last (range_size r.raw.p_lo r.raw.p_hi) _ _ _
      (spread_last (range_size r.raw.t_lo r.raw.t_hi) _ _ _
      (spread_last (range_size r.fewest r.most) _ _ _
      (powers (undecided_count (first_child r (split.Arc i j))) (undecided_count (second_child r (split.Arc i j))) (undecided_count r) first second)))

  pub is_weight : (limit : ℕ) → IsWeight (region_rules p limit) (IsProper p) weight
  is_weight limit =
      record {
        some = λ r proper. some_weight r;
        split_proper = λ r s a b proper e. split_proper p limit r s a b proper e;
        split_less = λ r s a b proper e.
            let made = is_split p limit r s a b e in
            subst (λ x. weight x + weight b ≤ weight r) made.first
            (subst (λ y. weight (first_child r s) + weight y ≤ weight r) made.second (parts_weigh r s made.progress));
      }
