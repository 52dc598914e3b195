-- Branches whose cuts are fronts of one path, as that is cut back and grows.
use Rattle.std.proofs.Common.{◌≡◌, ℕ, zero, suc, ◌≤◌, List, [], ◌∷◌, ◌++◌, length, take, refl, ap, sym, subst, ◌∙◌, arith}
use Rattle.std.specs.Prelude.{reverse}
use Rattle.std.proofs.lemmas.List.{length-append, reverse-append, take-append-le}
use Rattle.std.proofs.Math.Seq.{take-length}
use Rattle.orienteering.specs.declared.CutOnPath.{CutOnPath}
use Rattle.proof_check.specs.Waiting.{branch}
use Rattle.proof_check.specs.Nested.{branch_of, branches_of, AreNested}
use Rattle.proof_check.specs.declared.pending.Waiting.{Waiting}

reverse-push : (ws : List Waiting) (w : Waiting) → reverse (ws ++ w ∷ []) ≡ w ∷ reverse ws
reverse-push ws w = reverse-append ws (w ∷ [])

AreNested-more : (m n : ℕ) (ws : List Waiting) → m ≤ n → AreNested m ws → AreNested n ws
AreNested-more m n [] h a = tt
AreNested-more m n (w ∷ ws) h a = (omega (arith, h, a.0), a.1)

take-take : (k n : ℕ) (path : List CutOnPath) → n ≤ k → take n (take k path) ≡ take n path
take-take k zero path h = refl
take-take zero (suc n) path h = absurd (omega (arith, h))
take-take (suc k) (suc n) [] h = refl
take-take (suc k) (suc n) (c ∷ cs) h = ap (λ l. c ∷ l) (take-take k n cs (omega (arith, h)))

-- what has no more cuts than a path keeps them where the path agrees with another so far
same_branches : (most : ℕ) (one other : List CutOnPath) → ((n : ℕ) → n ≤ most → take n one ≡ take n other) →
    (ws : List Waiting) → AreNested most ws → branches_of one ws ≡ branches_of other ws
same_branches most one other same [] a = refl
same_branches most one other same (w ∷ ws) a =
    ap (λ cuts. branch w.context cuts w.under_cut ∷ branches_of one ws) (same w.cuts a.0)
    ∙ ap (λ bs. branch_of other w ∷ bs) (same_branches most one other same ws (AreNested-more w.cuts most ws a.0 a.1))

module _ (path : List CutOnPath) (waiting : List Waiting) (nested : AreNested (length path) (reverse waiting)) where
  -- the nearest branch, and the rest on a path that is cut back to it
  pub taken : (rest : List Waiting) (w : Waiting) (left : List CutOnPath) → waiting ≡ rest ++ w ∷ [] → left ≡ take w.cuts path →
      branches_of path (reverse waiting) ≡ branch w.context left w.under_cut ∷ branches_of left (reverse rest)
  taken rest w left split cut =
      let turned : reverse waiting ≡ w ∷ reverse rest = ap reverse split ∙ reverse-push rest w in
      let here : AreNested (length path) (w ∷ reverse rest) = subst (AreNested (length path)) turned nested in
      ap (branches_of path) turned
      ∙ ap (λ bs. branch_of path w ∷ bs)
      (sym (same_branches w.cuts (take w.cuts path) path (λ n h. take-take w.cuts n path h) (reverse rest) here.1))
      ∙ ap (λ l. branch w.context l w.under_cut ∷ branches_of l (reverse rest)) (sym cut)

  -- a longer path
  module _ (cut : CutOnPath) (grown : List CutOnPath) (is : grown ≡ path ++ cut ∷ []) where
    pub still_nested : AreNested (length grown) (reverse waiting)
    still_nested =
        subst (λ l. AreNested (length l) (reverse waiting)) (sym is)
        (AreNested-more (length path) (length (path ++ cut ∷ [])) (reverse waiting) (omega (arith, length-append path (cut ∷ []))) nested)

    same_below : branches_of grown (reverse waiting) ≡ branches_of path (reverse waiting)
    same_below =
        ap (λ l. branches_of l (reverse waiting)) is
        ∙ same_branches (length path) (path ++ cut ∷ []) path (λ n h. take-append-le n path (cut ∷ []) h) (reverse waiting) nested

    module _ (w : Waiting) (now : List Waiting) (more : now ≡ waiting ++ w ∷ []) where
      turned : reverse now ≡ w ∷ reverse waiting
      turned = ap reverse more ∙ reverse-push waiting w

      pub nested_below : w.cuts ≡ length grown → AreNested (length grown) (reverse now)
      nested_below all =
          subst (AreNested (length grown)) (sym turned)
          (omega (arith, all), subst (λ n. AreNested n (reverse waiting)) (sym all) still_nested)

      pub put_below : w.cuts ≡ length grown → branches_of grown (reverse now) ≡ branch w.context (path ++ cut ∷ []) w.under_cut ∷ branches_of path (reverse waiting)
      put_below all =
          ap (branches_of grown) turned
          ∙ ap (λ bs. branch_of grown w ∷ bs) same_below
          ∙ ap (λ (k : ℕ). branch w.context (take k grown) w.under_cut ∷ branches_of path (reverse waiting)) all
          ∙ ap (λ l. branch w.context l w.under_cut ∷ branches_of path (reverse waiting)) (take-length grown ∙ is)
