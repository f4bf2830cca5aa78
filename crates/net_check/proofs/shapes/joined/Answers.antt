use Rattle.net_check.proofs.ShapeLemmas.{joined-more}
use Rattle.net_check.proofs.shapes.joined.Goals as goal

pub loop-group-preserved : goal.loop-group-preserved
loop-group-preserved c =
    joined-more c.args.groups.now c.loop-group.group-index c.as_slice.result.now c.group-item.result _ _ c.loop-group-test.true c.group-item.is c.as_slice.ensures c.loop-group.invariant c.in_ok-add_all.ensures
