use Rattle.net_check.proofs.JoinLemmas.{stray_found, stray_more, stray_none}
use Rattle.net_check.proofs.places.first_stray.Goals as goal

pub returns-then-not-has_ends : goal.returns-then-not-has_ends
returns-then-not-has_ends c = stray_found c.args.net.now c.as_slice-chan-items.result.now c.loop-c.c _ c.has_ends.result c.as_slice-chan-items.ensures c.loop-c-test.true c.loop-c.invariant c.has_ends.ensures c.if-not-has_ends.true

pub loop-c-preserved : goal.loop-c-preserved
loop-c-preserved c = stray_more c.args.net.now c.as_slice-chan-items.result.now c.loop-c.c _ c.has_ends.result c.as_slice-chan-items.ensures c.loop-c-test.true c.loop-c.invariant c.has_ends.ensures c.if-not-has_ends.false

pub returns : goal.returns
returns c = stray_none c.args.net.now c.as_slice-chan-items.result.now c.loop-c.c c.as_slice-chan-items.ensures c.loop-c-test.false c.loop-c.invariant
