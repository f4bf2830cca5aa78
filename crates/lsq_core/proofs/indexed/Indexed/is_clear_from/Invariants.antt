use Rattle.std.proofs.Common.{◌-◌, ◌≤◌, length}
use Rattle.lsq_core.specs.Index.{IsClearBelow}
use Rattle.lsq_core.proofs.indexed.Indexed.is_clear_from.Given as goal

abbrev pub invariant-loop-at : goal.invariant-loop-at
invariant-loop-at l = record { clear : IsClearBelow l.side l.entry l.self.queue.items l.from; some : l.from ≤ length l.self.queue.items }

abbrev pub decreases-loop-at : goal.decreases-loop-at
decreases-loop-at l = length l.self.queue.items - l.from
