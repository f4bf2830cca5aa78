use Rattle.lsq_core.specs.Acts.{executes}
use Rattle.lsq_core.specs.Wants.{NoneBelow}
use Rattle.lsq_core.proofs.entries.Entries.oldest.Given as goal

abbrev pub invariant-loop-at : goal.invariant-loop-at
invariant-loop-at l = NoneBelow (executes l.self.queue.forward l.self.queue.items) l.self.queue.items l.at
