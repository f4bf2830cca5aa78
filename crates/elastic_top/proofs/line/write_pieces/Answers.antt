use Rattle.std.proofs.Common.{arith, subst, take}
use Rattle.std.proofs.lemmas.List.{take_all}
use Rattle.el_io.specs.Outside.{IsCut}
use Rattle.elastic_top.specs.Lines.{line_of}
use Rattle.elastic_top.proofs.Cuts.{gathered_end, on_any}
use Rattle.elastic_top.proofs.PieceLemmas.{piece_more, piece_cut}
use Rattle.elastic_top.proofs.line.write_pieces.Goals as goal

pub returns-in_err-write_piece-clause-cut : goal.returns-in_err-write_piece-clause-cut
returns-in_err-write_piece-clause-cut g c =
    on_any _ _ (piece_cut _ _ _ _ c.loop-i.i _ c.piece_at.result c.loop-i.invariant.gathered c.in_err-write_piece.ensures.cut c.loop-i-test.true c.piece_at.ensures)

pub loop-i-preserved : goal.loop-i-preserved
loop-i-preserved g c = record {
  gathered = piece_more _ _ _ _ _ c.loop-i.i _ c.piece_at.result c.loop-i.invariant.gathered c.in_ok-write_piece.ensures.ok c.loop-i-test.true c.piece_at.ensures;
  later = omega (arith, c.loop-i.invariant.later, c.write_piece.ensures.later);
}

pub returns-in_err-flush-clause-cut : goal.returns-in_err-flush-clause-cut
returns-in_err-flush-clause-cut g c =
    on_any _ _
    (subst (λ ps. IsCut (g.E.Sink.written c.args.err.now) (g.E.Sink.written c.flush.new.err) (line_of ps)) (take_all c.loop-i.i c.args.pieces.now (omega (arith, c.loop-i-test.false)))
    (gathered_end _ _ _ _ _ c.loop-i.invariant.gathered c.in_err-flush.ensures.cut))
