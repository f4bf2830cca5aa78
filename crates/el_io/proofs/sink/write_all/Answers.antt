use Rattle.std.proofs.Common.{arith}
use Rattle.el_io.proofs.Pieces.{one_more, within, from_here}
use Rattle.el_io.proofs.sink.write_all.Goals as goal

pub loop-at-preserved : goal.loop-at-preserved
loop-at-preserved g c =
    let piece = rw (from_here c.loop-at.at c.args.bytes.now) at c.in-Ok.ensures.taken in record {
      within = within _ _ _ _ _ c.loop-at.invariant.within piece;
      written = one_more _ _ _ _ _ _ c.loop-at.invariant.written piece;
      later = omega (arith, c.put.ensures.later);
    }
