use Rattle.std.proofs.Common.{arith}
use Rattle.net_worker.proofs.Edges.{marked_more}
use Rattle.net_worker.proofs.crossing.crossing_units.Goals as goal

pub loop-chan-preserved : goal.loop-chan-preserved
loop-chan-preserved c = record {
  long = c.mark_ends.ensures.long;
  marked = marked_more c.args.owners.now c.loop-chan.marks.items c.mark_ends.new.marks.items c.as_slice-chan-items.result.now c.loop-chan.chan-index _ (omega (arith, c.loop-chan-test.true)) c.loop-chan.invariant.marked c.mark_ends.ensures.kept c.mark_ends.ensures.marked;
}
