use Rattle.std.proofs.Common.{◌≡◌, ◌+◌, ℕ, List, ◌++◌, ◌∷◌, [], take, get_or, sym, ap, subst, ◌∙◌, append_assoc}
use Rattle.std.proofs.lemmas.List.{take_more}
use Rattle.tour_check.specs.Seen.{HasSame}
use Rattle.tour_check.proofs.Held.{held-inserted}
use Rattle.tour_check.proofs.refusal.hold_tour.Goals as goal

pub loop-next-preserved : goal.loop-next-preserved
loop-next-preserved c = λ seen same.
    let tour = c.args.tour.now in
    let k = c.loop-next.next-index in
    let call = get_or tour k 0 in
    let list : (seen ++ take k tour) ++ call ∷ [] ≡ seen ++ take (k + 1) tour =
    append_assoc seen (take k tour) (call ∷ []) ∙ ap (λ xs. seen ++ xs) (sym (take_more tour k 0 c.loop-next-test.true)) in
    let held : HasSame c.insert_small.new.self ((seen ++ take k tour) ++ call ∷ []) =
    subst (λ held. HasSame held ((seen ++ take k tour) ++ call ∷ [])) (sym c.insert_small.ensures.added) (held-inserted c.loop-next.earlier (seen ++ take k tour) call (c.loop-next.invariant seen same)) in
    subst (λ xs. HasSame c.insert_small.new.self xs) list held
