use Rattle.std.proofs.Common.{◌++◌, length, ap, sym, subst, ◌∙◌, arith}
use Rattle.dual_master.specs.Search.{IsSpan}
use Rattle.std.specs.Prelude.{All}
use Rattle.std.proofs.lemmas.Int.{ints}
use Rattle.dual_master.proofs.Values.{given}
use Rattle.dual_master.proofs.Spans.{laid_more}
use Rattle.dual_master.proofs.open_tours.lay_out.Goals as goal

pub weighted-requires-clause-profit : goal.weighted-requires-clause-profit
weighted-requires-clause-profit c =
    let g = given c.args.inst.now c.calls.ensures.instance c.args.pool.now c.requires.pool c.args.place c.in-Some.tour.now c.in-Some.point c.in-Some.ensures.column in
    let same = ap (λ v. v.profit) g.point_is in
    omega (arith, same, g.limits.profit)

pub weighted-requires-clause-time : goal.weighted-requires-clause-time
weighted-requires-clause-time c =
    let g = given c.args.inst.now c.calls.ensures.instance c.args.pool.now c.requires.pool c.args.place c.in-Some.tour.now c.in-Some.point c.in-Some.ensures.column in
    let same = ap (λ v. v.time) g.point_is in
    omega (arith, same, g.limits.time)

pub returns : goal.returns
returns c =
    let p = c.args.inst.now in
    let g = given p c.calls.ensures.instance c.args.pool.now c.requires.pool c.args.place c.in-Some.tour.now c.in-Some.point c.in-Some.ensures.column in
    let more = c.in_ok-extend_from_slice.ensures.items ∙ ap (λ calls. c.args.tours.now.calls.items ++ calls) c.calls-2.ensures in
    let laid =
    laid_more p c.args.ctx.now.calls c.args.tours.now.calls.items c.extend_from_slice.new.self.items c.in-Some.tour.now c.args.tours.now.spans.items _ c.requires.same
    g.feasible.calls g.limits.few more
    (omega arith) (omega arith) (omega (arith, ints, c.in_parts.ensures)) c.requires.tours.spans c.requires.tours.calls in
    record {
      spans = subst (All (IsSpan (length c.extend_from_slice.new.self.items))) (sym c.in_ok-push.ensures.items) laid.spans_are;
      calls = laid.calls_are;
    }
