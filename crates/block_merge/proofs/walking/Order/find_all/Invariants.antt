use Rattle.std.proofs.Common.{◌-◌, length}
use Rattle.block_merge.proofs.OrderLemmas.{AreStarting}
use Rattle.block_merge.proofs.walking.Order.find_all.Given as goal

abbrev pub invariant-loop-number : goal.invariant-loop-number
invariant-loop-number l = AreStarting l.blocks (length l.fn.self.stored.items) l.number (l.count - l.number) l.self
