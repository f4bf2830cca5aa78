use Rattle.std.proofs.Common.{◌∙◌}
use Rattle.net_core.proofs.StateLemmas.{cell_here, queue_here}
use Rattle.net_core.proofs.state.State.queue.Goals as goal

pub returns-in-Queue : goal.returns-in-Queue
returns-in-Queue c =
    rw c.deref.ensures (queue_here c.args.net.now c.args.self.now c.args.unit _ c.requires.of (cell_here c.args.net.now c.args.self.now c.args.unit c.index.result.now c.requires.of c.requires.within c.index.ensures ∙ c.in-Queue.is))
