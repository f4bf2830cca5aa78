use Rattle.std.proofs.Common.{◌≡◌, ◌-◌, ◌≤◌, true, is_some, length}
use Rattle.lsq_core.specs.Views.{InOrder}
use Rattle.lsq_core.specs.Wants.{NoneBelow}
use Rattle.lsq_core.specs.Index.{runs}
use Rattle.lsq_core.proofs.BehindLemmas.{HasFailed}
use Rattle.lsq_core.proofs.indexed.Indexed.first_from.Given as goal

abbrev pub invariant-loop-at : goal.invariant-loop-at
invariant-loop-at l = record {
  none : NoneBelow (runs l.side l.self.queue.forward l.self.queue.items) l.self.queue.items l.from;
  some : l.from ≤ length l.self.queue.items;
  last : is_some l.last.addr ≡ true → HasFailed l.side l.self.queue l.from l.last;
}

abbrev pub decreases-loop-at : goal.decreases-loop-at
decreases-loop-at l = length l.self.queue.items - l.from
