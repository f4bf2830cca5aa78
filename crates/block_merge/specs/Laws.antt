-- The laws of merged graphs.
use Rattle.ir.specs.Graphs.{Graph, IsGraph}
use Rattle.block_merge.specs.Merged.{merged}
use Rattle.block_merge.specs.Shares.{MergeShare, RunsBack}

abbrev pub MergedGraphsKeep : Type 0
MergedGraphsKeep = (g : Graph) → IsGraph g → MergeShare g (merged g)

abbrev pub MergedRunsGoBack : Type 0
MergedRunsGoBack = (g : Graph) → IsGraph g → RunsBack g (merged g)
