use Rattle.std.proofs.Common.{◌∙◌, sym}
use Rattle.net_core.proofs.StateLemmas.{queue_here}
use Rattle.net_worker.proofs.portion.Portion.queue.Goals as goal

pub returns-in-Queue : goal.returns-in-Queue
returns-in-Queue c =
    rw c.deref.ensures (queue_here c.args.net.now c.args.self.now.state c.args.unit _ c.requires.of (sym c.cell.ensures ∙ c.in-Queue.is))
