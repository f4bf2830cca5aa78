use Rattle.std.proofs.Common.{◌-◌}
use Rattle.block_copy.proofs.Keeping.{AreCopying}
use Rattle.block_copy.proofs.copying.copied_blocks.Given as goal

abbrev pub invariant-loop-at : goal.invariant-loop-at
invariant-loop-at l = AreCopying l.most l.fn.blocks l.at (l.count - l.at) l.blocks
