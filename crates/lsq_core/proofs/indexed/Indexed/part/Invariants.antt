use Rattle.std.proofs.Common.{◌≡◌, take}
use Rattle.lsq_core.proofs.indexed.Indexed.part.Given as goal

abbrev pub invariant-loop-at : goal.invariant-loop-at
invariant-loop-at l = l.entries ≡ take l.at l.self.queue.items
