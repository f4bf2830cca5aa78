-- The laws of folded graphs.
use Rattle.ir.specs.declared.graph.Block.{Block}
use Rattle.ir.specs.Graphs.{Graph, IsGraph, IsBlock}
use Rattle.block_pass.specs.Blocks.{BlockShare}
use Rattle.block_pass.specs.Laws.{PassesBack}
use Rattle.block_fold.specs.Simplified.{simplified}
use Rattle.block_fold.specs.Folded.{folded_block, folded}

abbrev pub SimplifiedBlocksKeep : Type 0
SimplifiedBlocksKeep = (g : Graph) (b : Block) → IsBlock g b → BlockShare g b (simplified b)

abbrev pub FoldedBlocksKeep : Type 0
FoldedBlocksKeep = (g : Graph) (b : Block) → IsBlock g b → BlockShare g b (folded_block b)

abbrev pub FoldedGraphsPass : Type 0
FoldedGraphsPass = (g : Graph) → IsGraph g → PassesBack g (folded g)
