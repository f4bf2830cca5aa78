use Rattle.std.proofs.Common.{◌≡◌, ◌++◌, drop, map}
use Rattle.block_fold.specs.Folded.{folded_block}
use Rattle.block_fold.proofs.folding.folded_blocks.Given as goal

abbrev pub invariant-loop-block : goal.invariant-loop-block
invariant-loop-block l = l.all ++ map folded_block (drop l.block-index l.blocks) ≡ map folded_block l.blocks
