use Rattle.std.proofs.Common.{◌-◌}
use Rattle.block_merge.proofs.PartLemmas.{AreJoining}
use Rattle.block_merge.proofs.joining.all_joined.Given as goal

abbrev pub invariant-loop-at : goal.invariant-loop-at
invariant-loop-at l = AreJoining l.fn.blocks l.counts.items l.at (l.count - l.at) l.blocks
