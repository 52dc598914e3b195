-- The order of the candidates: total, and only equal candidates tie.
use Rattle.std.proofs.Common.{◌≡◌, ◌∙◌, ℕ, false, List, take, ap, sym, refl, rules}
use Rattle.std.specs.Cmp.{IsTotalOrder}
use Rattle.std.specs.Cmp.Rules.{comparing}
use Rattle.std.specs.Ordering.{is_lt, ordering_reverse, ordering_then}
use Rattle.std.specs.FinMap.{int_cmp-IsAntisymmetric, nat_cmp-IsAntisymmetric}
use Rattle.std.specs.declared.cmp.Ordering.{Ordering}
use Rattle.std.specs.declared.cmp.Ordering.TheVariants.{Less, Equal, Greater}
use Rattle.std.proofs.lemmas.List.MinMax.{ranks_by}
use Rattle.itertools.specs.Extremes.{IsKLeast, by_cmp}
use Rattle.insert_heur.specs.Candidates.{candidate_cmp, in_order}
use Rattle.insert_heur.specs.declared.candidates.Candidate.{Candidate}
use Rattle.insert_heur.proofs.Ranks.{least_are_first}

candidate_total : IsTotalOrder candidate_cmp
candidate_total = search (comparing, rules) depth 9

then_first : (r s : Ordering) → ordering_then r s ≡ Equal → r ≡ Equal
then_first Equal s e = refl
then_first Less s e = cc
then_first Greater s e = cc

then_second : (r s : Ordering) → ordering_then r s ≡ Equal → s ≡ Equal
then_second Equal s e = e
then_second Less s e = cc
then_second Greater s e = cc

not_less : (r s : Ordering) → r ≡ ordering_reverse s → is_lt r ≡ false → is_lt s ≡ false → r ≡ Equal
not_less Equal s e a b = refl
not_less Less s e a b = cc
not_less Greater Less e a b = cc
not_less Greater Equal e a b = cc
not_less Greater Greater e a b = cc

same_fields : (x y : Candidate) → x.gain ≡ y.gain → x.call ≡ y.call → x.tour ≡ y.tour → x.position ≡ y.position → x ≡ y
same_fields x y gain call tour position =
    ap (λ g. record x { gain = g }) gain ∙ (ap (λ c. record x { gain = y.gain; call = c }) call
    ∙ (ap (λ t. record x { gain = y.gain; call = y.call; tour = t }) tour
    ∙ ap (λ p. record x { gain = y.gain; call = y.call; tour = y.tour; position = p }) position))

tie_same : (x y : Candidate) → candidate_cmp x y ≡ Equal → x ≡ y
tie_same x y tie =
    let gain = then_first _ _ tie in
    let after_gain = then_second _ _ tie in
    let call = then_first _ _ after_gain in
    let after_call = then_second _ _ after_gain in
    same_fields x y (sym (int_cmp-IsAntisymmetric y.gain x.gain gain)) (nat_cmp-IsAntisymmetric x.call y.call call)
    (nat_cmp-IsAntisymmetric x.tour y.tour (then_first _ _ after_call)) (nat_cmp-IsAntisymmetric x.position y.position (then_second _ _ after_call))

untied : (x y : Candidate) → by_cmp candidate_cmp x y ≡ false → by_cmp candidate_cmp y x ≡ false → x ≡ y
untied x y a b = tie_same x y (not_less (candidate_cmp x y) (candidate_cmp y x) (candidate_total.antisymm x y) a b)

pub best_are_first : (k : ℕ) (xs best : List Candidate) → IsKLeast (by_cmp candidate_cmp) k xs best →
    best ≡ take k (in_order (by_cmp candidate_cmp) xs)
best_are_first = least_are_first (by_cmp candidate_cmp) (ranks_by candidate_total (λ c. c)) untied
