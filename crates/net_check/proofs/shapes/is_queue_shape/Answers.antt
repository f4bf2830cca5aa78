use Rattle.std.proofs.Common.{rules}
use Rattle.net_check.proofs.ShapeLemmas.{decided_at}
use Rattle.net_check.proofs.shapes.is_queue_shape.Goals as goal

pub returns : goal.returns
returns c =
    decided_at c.args.depth c.args.ports.now c.as_slice-ports.result.now c.args.groups.now c.as_slice-groups.result.now _ _ c.is_each_once.result c.as_slice-ports.ensures c.as_slice-groups.ensures
    (search rules) (search rules) c.as_slice.ensures (search rules) c.is_each_once.ensures
