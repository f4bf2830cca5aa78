use Rattle.std.proofs.Common.{◌-◌}
use Rattle.block_merge.proofs.OrderLemmas.{IsWalking}
use Rattle.block_merge.proofs.walking.Order.walk.Given as goal

abbrev pub invariant-loop-walks : goal.invariant-loop-walks
invariant-loop-walks l = IsWalking l.blocks l.fn.self l.from l.at (l.count - l.walks) l.self
