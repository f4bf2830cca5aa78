use Rattle.lsq_core.proofs.PortLemmas.{Seen}
use Rattle.lsq_core.proofs.indexed.Indexed.next_by_entries.Given as goal

abbrev pub invariant-loop-at : goal.invariant-loop-at
invariant-loop-at l = Seen l.act l.self.queue.items l.from l.at l.found
