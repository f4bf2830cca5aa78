use Rattle.net_check.proofs.PeelLemmas.{targets_read, targets_past}
use Rattle.net_check.proofs.cycles.instant_targets.Goals as goal

pub loop-chan-preserved : goal.loop-chan-preserved
loop-chan-preserved c =
    targets_read c.args.net.now c.as_slice-chan-items.result.now c.loop-chan.chan-index c.loop-chan.targets.items _ c.requires c.as_slice-chan-items.ensures c.loop-chan-test.true c.in_ok-add_target.ensures c.loop-chan.invariant

pub returns : goal.returns
returns c = targets_past c.args.net.now c.as_slice-chan-items.result.now c.loop-chan.chan-index c.loop-chan.targets.items c.as_slice-chan-items.ensures c.loop-chan-test.false c.loop-chan.invariant
