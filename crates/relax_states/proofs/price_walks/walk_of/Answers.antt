use Rattle.std.proofs.Common.{◌≤◌, ◌∙◌, length, reverse, List, [], ◌∷◌, arith, sym, subst}
use Rattle.std.specs.List.{AllByRecursion}
use Rattle.std.proofs.lemmas.List.{length-reverse, reverse-append}
use Rattle.orienteering.specs.Instance.{IsCallAmong}
use Rattle.orienteering.proofs.Lists.{AllByRecursion-push}
use Rattle.relax_states.specs.BestWalks.{IsWalkAmong}
use Rattle.relax_states.proofs.price_walks.walk_of.Goals as goal

AllByRecursion-reverse : {X : Type 0} (P : X → Type 0) (xs : List X) → AllByRecursion P xs → AllByRecursion P (reverse xs)
AllByRecursion-reverse P [] a = tt
AllByRecursion-reverse P (x ∷ xs) a =
    subst (AllByRecursion P) (sym (reverse-append (x ∷ []) xs))
    (AllByRecursion-push P (reverse xs) x (AllByRecursion-reverse P xs a.1) a.0)

pub returns : goal.returns
returns c =
    let calls = c.loop.calls.items in
    subst (IsWalkAmong c.args.last) (sym (c.from_calls.ensures ∙ c.reverse.ensures.items))
    (record {
      calls = AllByRecursion-reverse (IsCallAmong c.args.last) calls c.loop.invariant.calls;
      few = subst (λ visits. visits ≤ c.args.last) (sym (length-reverse calls)) (omega (arith, c.loop.invariant.few, c.loop.auto.counter-end));
    })
