-- The laws of pruned blocks.
use Rattle.ir.specs.declared.graph.Block.{Block}
use Rattle.ir.specs.Graphs.{Graph, IsBlock}
use Rattle.block_pass.specs.Blocks.{BlockShare}
use Rattle.block_prune.specs.Overwritten.{without_overwritten}
use Rattle.block_prune.specs.Dead.{without_dead}
use Rattle.block_prune.specs.Pruned.{pruned}

abbrev pub OverwrittenStoresMayGo : Type 0
OverwrittenStoresMayGo = (g : Graph) (b : Block) → IsBlock g b → BlockShare g b (without_overwritten b)

abbrev pub DeadStepsMayGo : Type 0
DeadStepsMayGo = (g : Graph) (b : Block) → IsBlock g b → BlockShare g b (without_dead b)

abbrev pub PrunedBlocksKeep : Type 0
PrunedBlocksKeep = (g : Graph) (b : Block) → IsBlock g b → BlockShare g b (pruned b)
