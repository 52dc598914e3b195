use Rattle.std.proofs.Common.{◌∙◌, ◌++◌, ◌∷◌, [], set, ap, arith}
use Rattle.std.specs.List.{insert}
use Rattle.insert_heur.specs.Places.{tour_at}
use Rattle.insert_heur.proofs.WithCall.{with_call-inside, with_call-behind}
use Rattle.insert_heur.proofs.tours.put_in.Goals as goal

pub returns-then-tour-len : goal.returns-then-tour-len
returns-then-tour-len c =
    let tours = c.args.tours.now.items in
    ap (set tours c.args.tour) (c.in_ok-longer.ensures
    ∙ ap (λ calls. insert calls c.args.position c.args.call) (c.tour_at.ensures ∙ ap (λ ts. tour_at ts c.args.tour) c.as_slice.ensures.value))
    ∙ with_call-inside tours c.args.call c.args.tour c.args.position (omega (arith, c.if-tour-len.true, c.len.ensures, c.args.tours.now.ok.0))

pub returns-in_ok-push : goal.returns-in_ok-push
returns-in_ok-push c =
    let tours = c.args.tours.now.items in
    c.in_ok-push.ensures.items
    ∙ ap (λ t. tours ++ t ∷ []) (c.in_ok-longer.ensures
    ∙ ap (λ calls. insert calls c.args.position c.args.call) (c.tour_at.ensures ∙ ap (λ ts. tour_at ts c.args.tour) c.as_slice.ensures.value))
    ∙ with_call-behind tours c.args.call c.args.tour c.args.position (omega (arith, c.if-tour-len.false, c.len.ensures, c.args.tours.now.ok.0))
