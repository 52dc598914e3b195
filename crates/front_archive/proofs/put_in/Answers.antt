use Rattle.std.proofs.Common.{◌∙◌, subst, sym}
use Rattle.std.proofs.lemmas.Result.{on_ok_weaker}
use Rattle.orienteering.specs.Frontier.{AllRise}
use Rattle.front_archive.proofs.Places.{puts_in}
use Rattle.front_archive.proofs.put_in.Goals as goal

pub replace-requires-clause-in_order : goal.replace-requires-clause-in_order
replace-requires-clause-in_order c =
    (puts_in c.args.entries.now.items c.as_slice-held.result.now c.as_slice-held.ensures.value c.requires.rising
    c.args.entry c.requires.uncovered c.earlier_than-low.result c.no_richer_than-high.result
    c.earlier_than-low.ensures.bound c.no_richer_than-high.ensures.bound
    c.earlier_than-low.ensures.place c.no_richer_than-high.ensures.place).in_order

pub returns-clause-ok : goal.returns-clause-ok
returns-clause-ok c =
    let put = puts_in c.args.entries.now.items c.as_slice-held.result.now c.as_slice-held.ensures.value c.requires.rising
    c.args.entry c.requires.uncovered c.earlier_than-low.result c.no_richer_than-high.result
    c.earlier_than-low.ensures.bound c.no_richer_than-high.ensures.bound
    c.earlier_than-low.ensures.place c.no_richer_than-high.ensures.place in
    on_ok_weaker c.replace.result (λ e. e ∙ put.list) c.replace.ensures.ok

pub returns-clause-rising : goal.returns-clause-rising
returns-clause-rising c =
    let put = puts_in c.args.entries.now.items c.as_slice-held.result.now c.as_slice-held.ensures.value c.requires.rising
    c.args.entry c.requires.uncovered c.earlier_than-low.result c.no_richer_than-high.result
    c.earlier_than-low.ensures.bound c.no_richer_than-high.ensures.bound
    c.earlier_than-low.ensures.place c.no_richer_than-high.ensures.place in
    on_ok_weaker c.replace.result (λ e. subst AllRise (sym e) put.rising) c.replace.ensures.ok
