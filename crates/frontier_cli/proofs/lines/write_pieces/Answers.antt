use Rattle.std.proofs.Common.{sym, subst}
use Rattle.std.proofs.lemmas.List.{take_all}
use Rattle.std.specs.List.{flat_map}
use Rattle.edge_core.specs.Sink.{Gains, GainsFront}
use Rattle.edge_core.specs.SinkLaws.{front-all, front-more}
use Rattle.frontier_cli.specs.Refusal.{piece_text}
use Rattle.frontier_cli.proofs.Pieces.{flat_map-at}
use Rattle.frontier_cli.proofs.lines.write_pieces.Goals as goal

pub returns-in_err-write_piece-clause-front : goal.returns-in_err-write_piece-clause-front
returns-in_err-write_piece-clause-front g c =
    let all = flat_map-at piece_text c.args.pieces.now c.loop-piece.piece-index _ c.loop-piece-test.true in
    let old = (g.E.Sink.state c.args.err.now).bytes in
    let new = (g.E.Sink.state c.write_piece.new.err).bytes in
    subst (λ text. GainsFront text old new) (sym all) (front-more _ _ _ old _ new c.loop-piece.invariant.written c.write_piece.ensures.front)

pub returns-clause-front : goal.returns-clause-front
returns-clause-front g c =
    let all = take_all c.loop-piece.piece-index c.args.pieces.now c.loop-piece-test.false in
    let old = (g.E.Sink.state c.args.err.now).bytes in
    let new = (g.E.Sink.state c.loop-piece.err).bytes in
    front-all _ old new (subst (λ pieces. Gains (flat_map piece_text pieces) old new) all c.loop-piece.invariant.written)
