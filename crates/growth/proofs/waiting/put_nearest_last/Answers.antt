use Rattle.std.proofs.Common.{◌≡◌, reverse, sym, ap, subst, ◌∙◌, rules}
use Rattle.std.specs.List.Sorted.{IsNonDecreasingBy, IsStableByKey}
use Rattle.std.specs.Ordering.{nat_cmp}
use Rattle.std.proofs.lemmas.Fn.{always_returns_same}
use Rattle.std.proofs.lemmas.List.{reverse-reverse}
use Rattle.std.proofs.lemmas.List.Sorted.{IsPermutation-trans, IsNonDecreasingBy-from_sort_by_key}
use Rattle.growth.proofs.waiting.put_nearest_last.Goals as goal

pub returns-clause-same : goal.returns-clause-same
returns-clause-same g c = IsPermutation-trans _ _ _ c.sort_by_key.ensures.permutation c.reverse.ensures.permutation

pub returns-clause-nearest_last : goal.returns-clause-nearest_last
returns-clause-nearest_last g c =
    let back : reverse c.reverse.new.self.items ≡ c.sort_by_key.new.self.items =
    ap reverse c.reverse.ensures.items ∙ reverse-reverse c.sort_by_key.new.self.items in
    subst (λ ws. IsNonDecreasingBy (λ w. w.miss) ws) (sym back)
    (IsNonDecreasingBy-from_sort_by_key (λ w. w.miss) _ c.in_ok-sort_by_key.ensures.sorted (λ a r q k. search rules))

pub returns-clause-equal_ones : goal.returns-clause-equal_ones
returns-clause-equal_ones g c =
    let back : reverse c.reverse.new.self.items ≡ c.sort_by_key.new.self.items =
    ap reverse c.reverse.ensures.items ∙ reverse-reverse c.sort_by_key.new.self.items in
    subst (λ ws. IsStableByKey (λ w. w.miss) nat_cmp c.args.waiting.now.items ws) (sym back)
    (c.sort_by_key.ensures.stable (λ w. w.miss) (always_returns_same _ (λ a r. r ≡ a.0.now.miss) _ (λ a r q k. search rules)))
