-- The folded graph: each block made anew, without what nothing needs then.
use Rattle.std.specs.Prelude.{map}
use Rattle.ir.specs.declared.graph.Block.{Block}
use Rattle.ir.specs.Graphs.{Graph}
use Rattle.block_merge.specs.Merged.{with_blocks}
use Rattle.block_prune.specs.Pruned.{pruned}
use Rattle.block_fold.specs.Simplified.{simplified}

unfoldable pub folded_block : Block → Block
folded_block b = pruned (simplified b)

abbrev pub folded : Graph → Graph
folded g = with_blocks g (map folded_block g.blocks)
