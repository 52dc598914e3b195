use Rattle.std.proofs.Common.{◌∙◌, ◌++◌, ◌∷◌, ◌+◌, [], not, nat_eq, drop, ap, sym, arith}
use Rattle.std.proofs.lemmas.Bool.{eqb-true, eqb-false}
use Rattle.std.specs.List.{filter}
use Rattle.insert_heur.specs.Improvement.{without_call, before_others}
use Rattle.insert_heur.proofs.Moved.{rest_of, kept_tour, no_tour}
use Rattle.insert_heur.proofs.tours.without_call.Goals.{then-not-is_empty+in_ok-push, else-not-is_empty}
use Rattle.insert_heur.proofs.tours.without_call.Goals as goal

pub loop-tour-preserved : goal.loop-tour-preserved
loop-tour-preserved c =
    let call = c.args.call in
    let rest = without_call (drop (c.loop-tour.tour-index + 1) c.args.plan.now) call in
    let tours = c.loop-tour.tours.items in
    let kept = c.in_ok-kept.kept.items in
    let filtered = c.in_ok-kept.ensures ∙ ap (filter (λ x. not (nat_eq x call))) c.calls.ensures in
    let base = c.loop-tour.invariant
    ∙ ap (λ r. tours ++ r) (rest_of c.args.plan.now call c.loop-tour.tour-index c.tour-item.result c.loop-tour-test.true c.tour-item.is
    ∙ ap (λ ks. before_others ks rest) (sym filtered)) in
    elim c.if-not-is_empty.branch [
      | then-not-is_empty+in_ok-push w ↦
          let some = eqb-false _ _ (sym c.is_empty.ensures ∙ w.if-not-is_empty.true) in
          base
          ∙ kept_tour tours rest kept (omega (arith, some, c.in_ok-kept.kept.ok.0))
          ∙ ap (λ xs. xs ++ rest) (sym (ap (λ v. v.items) w.tours-is ∙ w.in_ok-push.ensures.items
          ∙ ap (λ k. tours ++ k ∷ []) w.from_calls.ensures))
      | else-not-is_empty w ↦
          let none = eqb-true _ _ (sym c.is_empty.ensures ∙ w.if-not-is_empty.false) in
          base
          ∙ ap (λ r. tours ++ r) (no_tour rest kept (omega (arith, none, c.in_ok-kept.kept.ok.0)))
          ∙ ap (λ xs. xs ++ rest) (sym (ap (λ v. v.items) w.tours-is))
    ]
