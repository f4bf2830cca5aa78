-- Private: only contracts of private functions cite it. Blocks of a well formed graph, whose values can be numbered.
use Rattle.std.specs.Prelude.{◌≤◌, ◌+◌, List, sum_by}
use Rattle.ir.specs.declared.graph.Block.{Block}
use Rattle.ir.specs.Graphs.{Graph, IsGraph, IsBlock, block_weight}
use Rattle.block_merge.specs.Merged.{with_blocks}
use Rattle.block_merge.specs.Parts.{CanBeJoined}

-- blocks of a well formed graph of no great size
pub record AreSmall (bs : List Block) : Type 0 where
  pub graph : Graph
  pub fine : IsGraph (with_blocks graph bs)
  pub small : sum_by block_weight bs ≤ 8000000

-- a further block of a well formed graph with these
pub record FitsAmong (bs : List Block) (b : Block) : Type 0 where
  pub graph : Graph
  pub fine : IsGraph (with_blocks graph bs)
  pub block : IsBlock (with_blocks graph bs) b

-- block c can stand behind block b
pub record CanFollow (b c : Block) : Type 0 where
  pub joinable : CanBeJoined b c
  pub light : block_weight b + block_weight c ≤ 8000000
