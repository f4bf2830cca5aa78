use Rattle.std.proofs.Common.{◌∙◌}
use Rattle.net_check.proofs.JoinLemmas.{gathered_fresh, gathered_again}
use Rattle.net_check.proofs.places.gather.Goals.{then-not-branch, else-not-branch}
use Rattle.net_check.proofs.places.gather.Goals as goal

pub loop-chan-preserved : goal.loop-chan-preserved
loop-chan-preserved c = elim c.if-not-branch.branch [
  | then-not-branch w ↦ gathered_again c.args.side c.args.chans.now c.loop-chan.chan-index _ c.end_of-end.result c.loop-chan.known c.insert.new.self c.loop-chan.twice c.if-not-branch.twice c.in_ok-insert.field-0 c.loop-chan-test.true c.end_of-end.ensures
      c.loop-chan.invariant c.in_ok-insert.ensures.updates.0 c.in_ok-insert.ensures.added w.if-not-branch.true (w.twice-is ∙ w.lowest-twice.ensures)
  | else-not-branch w ↦ rw w.twice-is (gathered_fresh c.args.side c.args.chans.now c.loop-chan.chan-index _ c.end_of-end.result c.loop-chan.known c.insert.new.self c.loop-chan.twice c.in_ok-insert.field-0 c.loop-chan-test.true c.end_of-end.ensures
      c.loop-chan.invariant c.in_ok-insert.ensures.updates.0 c.in_ok-insert.ensures.added w.if-not-branch.false)
]
